-- What a debug link tells.
use Rattle.dl_link.specs.declared.link.DebugLink.{DebugLink}
use Rattle.dl_link.specs.DebugLink.{LinkData}

abbrev pub link_seen : DebugLink → LinkData
link_seen link = record { name = link.name.items; crc = link.crc }

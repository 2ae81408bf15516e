-- A line that says an address, byte by byte. No promise rests on this file.
use Rattle.std.specs.Prelude.{ℕ, Bool, true, false, ◌==◌, if◌then◌else◌, Option, Some, None}
use Rattle.dl_cmd.specs.AddressText.{address_of, text_after as word_after}
use Rattle.dl_cmd.specs.declared.address.AddressText.TheVariants.{Empty}
use Rattle.dl_look.specs.declared.asked.Asked.{Asked}
use Rattle.dl_asked.specs.AskedLines.{is_blank}
use Rattle.dl_asked.specs.declared.line.Text.{Text}
use Rattle.dl_asked.specs.declared.line.Text.TheVariants.{Blank, Word, Ended}
use Rattle.dl_asked.specs.declared.line.Line.{Line}

-- a byte more
abbrev pub text_after : (hex : Bool) → Text → (byte : ℕ) → Text
text_after hex Blank byte = if is_blank byte then Blank else Word (word_after hex Empty byte)
text_after hex (Word word) byte = if is_blank byte then Ended (address_of word) else Word (word_after hex word byte)
text_after hex (Ended address) byte = Ended (if is_blank byte then address else None)

-- what it asks for; None of an empty one
abbrev pub asked_of : Text → Option Asked
asked_of Blank = None
asked_of (Word word) = Some (record { address = address_of word })
asked_of (Ended address) = Some (record { address = address })

abbrev pub new_line : Line
new_line = record { text = Blank; returned = false }

-- a 0x0d that the line doesn't end after belongs to its text; 13 is 0x0d
abbrev pub text_so_far : (hex : Bool) → Line → Text
text_so_far hex l = if l.returned then text_after hex l.text 13 else l.text

-- a byte more, which isn't 0x0a
abbrev pub after_byte : (hex : Bool) → Line → (byte : ℕ) → Line
after_byte hex l byte =
    if byte == 13 then record { text = text_so_far hex l; returned = true }
    else record { text = text_after hex (text_so_far hex l) byte; returned = false }

-- where the input ends without a 0x0a
abbrev pub asked_at_end : (hex : Bool) → Line → Option Asked
asked_at_end hex l = asked_of (text_so_far hex l)

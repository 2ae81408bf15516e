-- Want of memory over words.
use Rattle.std.specs.Prelude.{◌≡◌, IfErr, Result}
use Rattle.std.specs.declared.alloc.AllocError.{AllocError}
use Rattle.clap.specs.Words.{kind_of}
use Rattle.clap.specs.declared.error.Error.{Error}
use Rattle.clap.specs.declared.error.kind.ErrorKind.TheVariants.{OutOfMemory}

-- Memory was refused. An error of the standard library's or clap's shows it: what stands on this definition doesn't see
-- what it is.
pub LibraryRefused : Type 0
LibraryRefused = Unit {0}

-- An error of the standard library shows it, and of clap one that is want of memory.
pub library_refused : AllocError → LibraryRefused
unfolding LibraryRefused
library_refused error = tt

pub clap_refused : (e : Error) → kind_of e ≡ OutOfMemory → LibraryRefused
unfolding LibraryRefused
clap_refused e wants = tt

-- an error is want of memory only where that was refused
abbrev pub WantsRefused : {T : Type 0} → Result T Error → Type 0
WantsRefused r = IfErr r (λ e. kind_of e ≡ OutOfMemory → LibraryRefused)

-- Where a file has code.
use Rattle.std.proofs.Common.{◌≡◌, inr, List, [], length, ℕ, Option, Result, Ok, Err, sym, subst}
use Rattle.std.specs.Prelude.{◌≢◌, IfOk, IfErr, MatchResult}
use Rattle.std.specs.declared.io.Error.{Error}
use Rattle.dl_file.specs.Code.{IsCode}
use Rattle.dl_file.specs.declared.code.Code.{Code}
use Rattle.dl_look.specs.declared.code_ranges.CodeRanges.{CodeRanges}
use Rattle.dl_open.specs.declared.code.FileCode.{FileCode}
use Rattle.dl_open.specs.declared.fault.FileFault.{FileFault}
use Rattle.dl_open.specs.declared.fault.FileFault.TheVariants.{NoMemory}
use Rattle.dl_memory.specs.Refusals.{IsRefused}
use Rattle.dl_open.specs.Code.{AreLive, RefusesCode, linked_ranges}

pub code_told : (refuses : ℕ → Type 0) (fails : Error → Type 0) (f : List ℕ) (code : Code) (result : Result (Option CodeRanges) FileFault)
    → IsCode f (Ok code) → IfOk result (λ ranges. AreLive ranges code)
    → IfErr result (λ fault. (fault ≡ NoMemory) × (code.ranges.items ≢ []) × IsRefused refuses (length code.ranges.items))
    → MatchResult result (λ ranges. (code : Code) × IsCode f (Ok code) × AreLive ranges code) (RefusesCode refuses fails f)
code_told refuses fails f code (Ok ranges) is live refused = (code, is, live)
code_told refuses fails f code (Err fault) is live refused =
    subst (RefusesCode refuses fails f) (sym refused.0) (inr (code, is, refused.1, refused.2))

-- the same with the ranges
pub ranges_told : (refuses : ℕ → Type 0) (fails : Error → Type 0) (f : List ℕ) (code : Code) (result : Result FileCode FileFault)
    → IsCode f (Ok code) → IfOk result (λ found. found.ranges.items ≡ linked_ranges code)
    → IfOk result (λ found. AreLive found.live code)
    → IfErr result (λ fault. (fault ≡ NoMemory) × (code.ranges.items ≢ []) × IsRefused refuses (length code.ranges.items))
    → MatchResult result (λ found. (code : Code) × IsCode f (Ok code) × (found.ranges.items ≡ linked_ranges code)
    × AreLive found.live code) (RefusesCode refuses fails f)
ranges_told refuses fails f code (Ok found) is ranges live refused = (code, is, ranges, live)
ranges_told refuses fails f code (Err fault) is ranges live refused =
    subst (RefusesCode refuses fails f) (sym refused.0) (inr (code, is, refused.1, refused.2))

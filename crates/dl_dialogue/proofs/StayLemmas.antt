-- What tells of addresses stays as it is while it is asked.
use Rattle.std.proofs.Common.{◌≡◌, ℕ, Option, subst}
use Rattle.std.specs.declared.io.Error.{Error}
use Rattle.dl_addr.specs.Location.{Location}
use Rattle.dl_dialogue.specs.Answers.{Determines}
use Rattle.dl_dialogue.specs.Faults.{TellFails}
use Rattle.dl_dialogue.specs.Staying.{Stays}
use Rattle.dl_dialogue.specs.declared.fault.TellFault.{TellFault}
use Rattle.dl_dialogue.specs.declared.fault.TellFault.TheVariants.{NoMemory, Read}

module _ {T : Type 0} {tells : T → ℕ → Option Location → Type 0} {Fails : T → Error → Type 0} {Asks : T → ℕ → Type 0} where
  pub stays_itself : (t : T) → Stays tells Fails Asks t t
  stays_itself t = record { told = λ address told is. is; fails = λ error is. is; asks = λ n is. is }

  module _ {first now : T} (s : Stays tells Fails Asks first now) where
    pub stays_on : {later : T} → Stays tells Fails Asks now later → Stays tells Fails Asks first later
    stays_on t = record {
      told = λ address told is. s.told address told (t.told address told is);
      fails = λ error is. s.fails error (t.fails error is);
      asks = λ n is. s.asks n (t.asks n is);
    }

    pub determined : {f : ℕ → Option Location} → Determines (tells first) f → Determines (tells now) f
    determined determines address told is = determines address told (s.told address told is)

    pub tell_fails : (refuses : ℕ → Type 0) (fault : TellFault) → TellFails (Fails now) (Asks now) refuses fault
        → TellFails (Fails first) (Asks first) refuses fault
    tell_fails refuses (Read error) fails = s.fails error fails
    tell_fails refuses NoMemory (n, asked, refused) = (n, s.asks n asked, refused)

-- what is told, and with which errors reads fail, is that of a part that stays
pub stays_by : {I T : Type 0} (tells : I → ℕ → Option Location → Type 0) (Fails : I → Error → Type 0) (Asks : I → ℕ → Type 0)
    (part : T → I) (first now : T) → part now ≡ part first
    → Stays (λ t. tells (part t)) (λ t. Fails (part t)) (λ t. Asks (part t)) first now
stays_by tells Fails Asks part first now same = record {
  told = λ address told is. subst (λ i. tells i address told) same is;
  fails = λ error is. subst (λ i. Fails i error) same is;
  asks = λ n is. subst (λ i. Asks i n) same is;
}

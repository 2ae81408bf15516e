use Rattle.std.proofs.Common.{Some, refl, ap, ◌∙◌}
use Rattle.dl_field.specs.declared.params.Params.{Params}
use Rattle.dl_head.specs.Built.{wrong_length}
use Rattle.dl_head.proofs.HeaderGiven.{header_parts}
use Rattle.dl_head.proofs.reader.HeadReader.complete.Goals as goal

pub returns : goal.returns
returns c = record {
  phase = refl;
  header = ap (λ h. Some h) (c.of_parts.ensures
      ∙ header_parts c.replace-params.ensures.value c.replace-directories.ensures.value c.replace-files.ensures.value);
  dialect = refl;
  taken = refl;
  start = refl;
  unit = record {
    end = refl;
    unit_length = refl;
    format = ap (λ p. p.format) c.replace-params.ensures.after
        ∙ c.least.ensures.format;
  };
}

pub invariant_of-self-clause-standard : goal.invariant_of-self-clause-standard
invariant_of-self-clause-standard c =
    record {
      none_wrong = ap (λ (p : Params). wrong_length 1 p.lengths.items) c.replace-params.ensures.after
          ∙ ap (wrong_length 1) c.least.ensures.no_lengths;
    }

-- What is printed is said of the analysis of the sources that were read.
use Rattle.std.proofs.Common.{◌≡◌, ℕ, List, Bool, sym, subst, ◌∙◌}
use Rattle.std.specs.declared.option.Option.{Option}
use Rattle.source_io.specs.Counts.{Grew}
use Rattle.spark_messages.specs.Text.{text}
use Rattle.flow_driver.specs.declared.report.Report.{Report}
use Rattle.flow_driver.specs.Report.{IsReport}
use Rattle.flow_driver.specs.Run.{Analysis, AreSources, GrewByPart, IsPrinted, IsPartlyPrinted, verdict}
use Rattle.flow_driver.proofs.Silent.{clean_sources}

module _ {D : Type 0} (told : D → Option (List (List ℕ × List ℕ))) (gaps : D → Bool) (names : List (List ℕ)) (files : D)
    (sources : List (List ℕ)) (r : Report) (are : AreSources (told files) (gaps files) names sources) (reported : IsReport sources r)
    (bytes : List ℕ) (is : bytes ≡ text names r.messages) (old new : Option (List ℕ)) where
  pub printed_whole : (status : ℕ) → Grew old bytes new → status ≡ verdict r → (a : Analysis told gaps names files) × IsPrinted a status old new
  printed_whole status grew v = (
    record { sources = sources; report = r; are_told = are; is_report = reported },
    record {
      printed = subst (λ (xs : List ℕ). Grew old xs new) is grew;
      status_is = v;
      clean = λ zero_is. clean_sources sources r reported (sym v ∙ zero_is);
    },
  )

  pub printed_in_part : GrewByPart old bytes new → (a : Analysis told gaps names files) × IsPartlyPrinted a old new
  printed_in_part part = (
    record { sources = sources; report = r; are_told = are; is_report = reported },
    subst (λ (xs : List ℕ). GrewByPart old xs new) is part,
  )

-- There is only one answer.
use Rattle.std.proofs.Common.{◌≡◌, ◌∙◌, ℕ, List, Option, Some, None, ap, sym, Bool, true, false, Ok, Err, rules}
use Rattle.std.specs.Prelude.{Result}
use Rattle.std.proofs.Math.Path.{subst}
use Rattle.aide_conf.specs.Settings.{Configured}
use Rattle.aide_conf.specs.declared.options.Options.{Options}
use Rattle.aide_report_specs.proofs.Laws.{no_pair_has_two_answers}
use Rattle.aide_site.specs.Answer.{Answer, Named, Compares, IsAnswerBy, IsCompared, IsSettingsAnswerBy, refused}
use Rattle.aide_site.specs.Files.{Files}
use Rattle.aide_site.specs.JobSettings.{no_settings_line, no_settings_status}
use Rattle.aide_site.specs.declared.job_config.NoSettings.{NoSettings}
use Rattle.aide_site.proofs.AnswerSteps.{one_file, one_settings}
use Rattle.aide_site.specs.Says.{Says}
use Rattle.aide_words.specs.Job.{JobText}
use Rattle.aide_site.proofs.ClosingEnds.{answer_by, compared_by}
use Rattle.aide_site.proofs.Endings.{same_some}

module _ (says : Says) (files : Files) where
  one_comparison : (options : Options) (named : Named) (old new : Option (List ℕ)) (a b : Answer)
      → IsCompared options named old new a → IsCompared options named old new b → a ≡ b
  one_comparison options named old new a b p q = search (rules, compared_by, answer_by, no_pair_has_two_answers)

  one_of_paths : (s : Configured) (named : Named) (a b : Answer) → Compares files s named a
      → Compares files s named b → a ≡ b
  one_of_paths s named a b p q = search (rules, one_file, one_comparison)

  -- the same configuration and the same settings name the same paths
  same_named : (s : Configured) (named other : Named) (a b : Answer) → other.config ≡ named.config
      → Compares files s named a → Compares files s other b → other ≡ named
  same_named s named other a b same p q = search (rules, same_some)

  one_of_settings : (settings : Result Configured NoSettings) (compare : Bool) (named other : Named) (a b : Answer)
      → other.config ≡ named.config → IsSettingsAnswerBy says files settings compare named a
      → IsSettingsAnswerBy says files settings compare other b → a ≡ b
  one_of_settings (Ok s) true named other a b same p q =
      one_of_paths s named a b p (subst (λ (n : Named). Compares files s n b) (same_named s named other a b same p q) q)
  one_of_settings (Ok s) false named other a b same p q = p ∙ sym q
  one_of_settings (Err why) compare named other a b same p q =
      p ∙ ap (λ path. refused (no_settings_line path why) (no_settings_status why)) (sym same) ∙ sym q

  pub one_answer : (wanted : Option JobText) (named other : Named) (a b : Answer)
      → IsAnswerBy says files wanted named a → IsAnswerBy says files wanted other b → a ≡ b
  one_answer None named other a b p q = p ∙ sym q
  one_answer (Some job) named other a b p q =
      one_of_settings p.settings job.compare named other a b (q.config_is ∙ sym p.config_is) p.then_is
      (subst (λ (r : Result Configured NoSettings). IsSettingsAnswerBy says files r job.compare other b)
      (one_settings job q.settings p.settings files q.are p.are) q.then_is)

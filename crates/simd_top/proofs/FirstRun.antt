-- Where the first run is undefined, its text tells both.
use Rattle.std.proofs.Common.{◌≡◌, ℕ, List, [], length, false, refl, sym, ◌∙◌, ap}
use Rattle.c_text.specs.declared.tokens.Dialect.TheVariants.{X86, Neon}
use Rattle.c_tree.specs.Tree.{External}
use Rattle.c_memory.specs.Meaning.{means}
use Rattle.c_memory.specs.Outcomes.{Outcome}
use Rattle.migrate_report.specs.Texts.{run_text}
use Rattle.simd_top.specs.declared.status.Status.{Status}
use Rattle.simd_top.specs.Compared.{IsRun, IsCompared, HasFit, is_defined, both_lines}
use Rattle.simd_top.specs.Ran.{rows, status_of}

pub undefined_compared : (source written : List External) (name : List ℕ) (turns : ℕ) (items : List (List ℕ)) (text : List ℕ) (status : Status) (blocks : ℕ) (first : Outcome) →
    IsRun X86 source name turns items blocks first → is_defined first ≡ false → HasFit written name items → text ≡ both_lines (run_text source blocks first) false [] → status ≡ status_of first →
    IsCompared source written name turns items text status
undefined_compared source written name turns items text status blocks first run undefined fit told ended =
    let second = means (rows Neon) written name fit.0 fit.1 turns in
    record {
      blocks = blocks;
      others = length fit.1;
      first = first;
      second = second;
      runs = run;
      runs_written = record { args = fit.0; memory = fit.1; fits = fit.2; blocks = refl; means = refl };
      ended = ended;
      told = told ∙ ap (λ b. both_lines (run_text source blocks first) b (run_text written (length fit.1) second)) (sym undefined);
    }

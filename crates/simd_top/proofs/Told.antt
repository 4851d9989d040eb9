-- What is due for the bytes that were read is due for the source, whether it tells them or not.
use Rattle.std.proofs.Common.{◌≡◌, ◌≤◌, ◌<◌, ℕ, ◌+◌, List, [], ◌∷◌, length, replicate, Option, Some, None, Result, Ok, Err, IfOk, ◌∙◌, ap, subst, arith}
use Rattle.std.specs.Prelude.{codes}
use Rattle.std.proofs.lemmas.List.{length-replicate}
use Rattle.c_text.specs.declared.tokens.Dialect.{Dialect}
use Rattle.mig_io.specs.declared.whole.ReadFail.{ReadFail}
use Rattle.mig_io.specs.Outside.{ReadsAll, ReadsPast}
use Rattle.migrate_report.specs.Lines.{refusal_lines}
use Rattle.simd_top.specs.declared.due.Due.{Due}
use Rattle.simd_top.specs.declared.due.Due.TheVariants as due
use Rattle.simd_top.specs.declared.status.Status.{Status}
use Rattle.simd_top.specs.declared.status.Status.TheVariants as status
use Rattle.simd_top.specs.Source.{source_limit}
use Rattle.simd_top.specs.Refusals.{at_the_start, IsRefused, TooLong}
use Rattle.simd_top.specs.TopCall.{Calls, Writes, Refuses, IsDue, IsAnswer}
use Rattle.simd_top.specs.Words.{Command, dialect_of}

text_of : (c : Command) (s : Status) (before after : Option (List ℕ)) (bytes text : List ℕ) → ReadsAll before after bytes → length bytes ≤ source_limit (dialect_of c) → Calls c bytes s text → Writes c s before after text
text_of c s None after bytes text all within h = (bytes, within, h)
text_of c s (Some left) after bytes text all within h =
    (subst (λ b. length b ≤ source_limit (dialect_of c)) all.0 within, subst (λ b. Calls c b s text) all.0 h, all.1)

lines_of : (c : Command) (before after : Option (List ℕ)) (bytes lines : List ℕ) → ReadsAll before after bytes → IsRefused c bytes lines → Refuses c before lines
lines_of c None after bytes lines all h = (bytes, h)
lines_of c (Some left) after bytes lines all h = subst (λ b. IsRefused c b lines) all.0 h

due_of : (c : Command) (before after : Option (List ℕ)) (bytes : List ℕ) (d : Due) → ReadsAll before after bytes → length bytes ≤ source_limit (dialect_of c) → IsAnswer c bytes d → IsDue c before after d
due_of c before after bytes (due.Done text) all within h = text_of c status.Done before after bytes text.items all within h
due_of c before after bytes (due.Undefined text) all within h = text_of c status.Undefined before after bytes text.items all within h
due_of c before after bytes (due.Turns text) all within h = text_of c status.Turns before after bytes text.items all within h
due_of c before after bytes (due.Report lines) all within h = lines_of c before after bytes lines.items all h

pub answer_due : (c : Command) (x : Dialect) (limit : ℕ) (res : Result Due ReadFail) (before after : Option (List ℕ)) (bytes seen : List ℕ) → limit ≡ source_limit x → x ≡ dialect_of c → seen ≡ bytes →
    ReadsAll before after bytes → length bytes ≤ limit → IfOk res (IsAnswer c seen) → IfOk res (IsDue c before after)
answer_due c x limit (Err e) before after bytes seen at dialect same all within h = tt
answer_due c x limit (Ok d) before after bytes seen at dialect same all within h =
    due_of c before after bytes d all (subst (λ n. length bytes ≤ n) (at ∙ ap source_limit dialect) within) (subst (λ b. IsAnswer c b d) same h)

longer : (n : ℕ) → n < length {A = ℕ} (replicate (n + 1) 0)
longer n = omega (arith, length-replicate {A = ℕ} (n + 1) 0)

pub long_due : (c : Command) (x : Dialect) (limit : ℕ) (before after : Option (List ℕ)) (lines : List ℕ) → limit ≡ source_limit x → x ≡ dialect_of c → ReadsPast limit before after →
    lines ≡ refusal_lines (at_the_start 1 (codes "source") ∷ []) → Refuses c before lines
long_due c x limit None after lines at dialect past is = (replicate (source_limit (dialect_of c) + 1) 0, TooLong (longer (source_limit (dialect_of c))) is)
long_due c x limit (Some left) after lines at dialect past is = TooLong (subst (λ n. n < length left) (at ∙ ap source_limit dialect) past.0) is

use Rattle.std.proofs.Common.{◌≡◌, ◌∙◌, ap, cond, None, Some, nat_eq}
use Rattle.std.specs.Cmp.Lexicographic.{pointwise}
use Rattle.std.specs.Str.{bytes_eq}
use Rattle.std.specs.Map.{lookup}
use Rattle.indexmap.proofs.CallerLemmas.{insert_entry-new}
use Rattle.c_directives.specs.Entries.{numbers_of, or_else}
use Rattle.c_directives.proofs.Numbering.{lookup-append}
use Rattle.c_directives.proofs.numbers.Numbers.insert.Goals as goal

pub returns-clause-added : goal.returns-clause-added
unfolding numbers_of
returns-clause-added c =
    let k = c.in_ok-key.key in
    let es = c.args.self.now.map.entries in
    let absent : lookup (λ q. pointwise nat_eq k.items q.items) es ≡ None =
    ap (λ x. lookup (λ q. pointwise nat_eq x q.items) es) c.in_ok-key.ensures.items ∙ c.requires in
    λ x. ap (lookup (λ q. pointwise nat_eq x q.items)) (c.in_ok-insert.ensures.entries ∙ insert_entry-new _ c.args.self.now.map k c.args.number absent) ∙
    lookup-append x es k c.args.number ∙
    ap (λ y. or_else (lookup (λ q. pointwise nat_eq x q.items) es) (cond (bytes_eq x y) (Some c.args.number) None)) c.in_ok-key.ensures.items

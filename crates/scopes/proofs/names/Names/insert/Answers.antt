use Rattle.std.proofs.Common.{◌≡◌, ◌∙◌, ap, None, nat_eq}
use Rattle.std.specs.Cmp.Lexicographic.{pointwise}
use Rattle.std.specs.Map.{lookup}
use Rattle.indexmap.proofs.CallerLemmas.{insert_entry-new}
use Rattle.scopes.proofs.Entries.{lookup-named, seen, entries-append}
use Rattle.scopes.proofs.names.Names.insert.Goals as goal

pub returns : goal.returns
returns g c =
    let k = c.in_ok-key.key in
    let es = c.args.self.now.map.entries in
    let absent : lookup (λ q. pointwise nat_eq k.items q.items) es ≡ None =
    ap (λ x. lookup (λ q. pointwise nat_eq x q.items) es) c.in_ok-key.ensures.items ∙ lookup-named c.args.name.now es ∙ c.requires in
    ap seen (c.in_ok-insert.ensures.entries ∙ insert_entry-new _ c.args.self.now.map k c.args.value absent) ∙ entries-append es k c.args.value c.args.name.now c.in_ok-key.ensures.items

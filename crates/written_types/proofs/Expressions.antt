-- What is written for an expression has its types (C11 6.5).
use Rattle.std.proofs.Common.{◌≡◌, refl, sym, ap, ◌∙◌, subst, ℕ, Bool, List, Some, None}
use Rattle.std.specs.Prelude.{option_map}
use Rattle.c_tree.specs.declared.types.CType.{CType}
use Rattle.c_tree.specs.Tree as tree
use Rattle.c_tree.specs.Tree.{Tree, Trees, Node, NoTrees, More}
use Rattle.c_memory.specs.Matching.{written_type}
use Rattle.lane_core.specs.Table.{params_of}
use Rattle.scopes.specs.Scopes.{Env}
use Rattle.intel_table.specs.Rows.{signature_of}
use Rattle.type_rules.specs.Types.{read_type}
use Rattle.type_rules.specs.Rules.{Passed}
use Rattle.expression_types.specs.Check.{read_number}
use Rattle.expression_types.specs.Typed as typed
use Rattle.expression_types.specs.Typed.{Typed, TypedAll}
use Rattle.seq_core.specs.Terms.{Sequence}
use Rattle.sequence_types.specs.Claims.{InPlaceIsTyped}
use Rattle.written_forms.specs.Seen.{Sees}
use Rattle.written_forms.specs.Moved.{Plans}
use Rattle.written_forms.specs.Planned.{AreFit}
use Rattle.written_forms.specs.ReadyUnits.{Heads, setting}
use Rattle.written_types.proofs.Types.{no_array}
use Rattle.written_types.proofs.Fine.{Fine, AllFine, fine_pointer}
use Rattle.written_types.proofs.Places.{At, written_object}
use Rattle.written_types.proofs.Conversions.{Own, AllOwn}
use Rattle.written_types.proofs.Arguments.{passed_fine, row_fine}
use Rattle.written_types.proofs.Forms.{constant_own, unary_own, binary_own, and_own, or_own, choice_own, comma_own, step_own, assign_own, cast_own, size_own, size_of_own, index_own, deref_own, half_own, pair_own}
use Rattle.written_types.proofs.Rows.{row_found, function_own, row_own}

module _ (plans : Plans) (fit : AreFit plans) (law : InPlaceIsTyped) (helps : List ℕ → ℕ → Bool) (sees : Sees) (heads : Heads) (env there : Env)
    (at : At (setting plans helps heads) env there) where
  mutual
    pub own : (a v : Tree) → Typed env a v → Fine (setting plans helps heads) sees v → Own plans sees there v
    own a v (typed.constant p t n) k = constant_own plans sees (setting plans helps heads) env there at p (read_number env.dialect n)
    own a v (typed.object p t x o h n) k = record {
      typed = typed.object p (written_type o.ty) x (written_object o) (at.objects x ∙ ap (option_map written_object) h) (no_array o.ty k.0);
      ty = refl;
    }
    own a v (typed.array p t x o e n c h i) k = fine_pointer (setting plans helps heads) sees v e c refl k
    own a v (typed.unary p t o b b' w h r) k = unary_own plans sees (setting plans helps heads) env there at p o b' v r (own b b' h) k
    own a v (typed.binary p t o b b' c c' w h i r) k = binary_own plans sees (setting plans helps heads) env there at p o b' c' v r (own b b' h) (own c c' i) k
    own a v (typed.conjunction p t b b' c c' w h i r) k = and_own plans sees (setting plans helps heads) env there at p b' c' v r (own b b' h) (own c c' i) k
    own a v (typed.disjunction p t b b' c c' w h i r) k = or_own plans sees (setting plans helps heads) env there at p b' c' v r (own b b' h) (own c c' i) k
    own a v (typed.choice p t b b' c c' d d' w h i j r) k = choice_own plans sees (setting plans helps heads) env there at p b' c' d' v r (own b b' h) (own c c' i) (own d d' j) k
    own a v (typed.sequence p t all all' w h r) k = comma_own plans sees (setting plans helps heads) env there at p all' v r (all_own all all' h) k
    own a v (typed.index p t b b' c c' w h i r) k = index_own plans sees (setting plans helps heads) env there at p b' c' v r k
    own a v (typed.dereference p t b b' w h r) k = deref_own plans sees (setting plans helps heads) env there at p b' v r k
    own a v (typed.half_of p t b b' w n h r) k = half_own plans sees (setting plans helps heads) env there at p b' v n r k
    own a v (typed.pair p t b b' c c' w h i r) k = pair_own plans sees (setting plans helps heads) env there at p b' c' v r k
    own a v (typed.step p t b b' w up before h d r) k = step_own plans sees (setting plans helps heads) env there at p b' v up before r d (own b b' h) k
    own a v (typed.assign p t o b b' c c' w h i d r) k = assign_own plans sees (setting plans helps heads) env there at p o b' c' v r d (own b b' h) (own c c' i) k
    own a v (typed.address p t b b' c e h d o) k = fine_pointer (setting plans helps heads) sees v e c refl k
    own a v (typed.cast p t u b b' w h r n) k = cast_own plans sees (setting plans helps heads) env there at p (read_type env.dialect u) b' v r (own b b' h) k
    own a v (typed.through p t u b b' h) k = own b b' h k
    own a v (typed.size p t u w r n) k = size_own plans sees (setting plans helps heads) env there at p (read_type env.dialect u) v r
    own a v (typed.size_of_object p t x o n h i) k = size_of_own plans sees (setting plans helps heads) env there at p x
    own a v (typed.call_of_function p t f c all all' args u none h before calls many passed i) k =
        let s = at.functions f c h before in
        function_own plans fit law helps sees heads env there at p f c all' args s none passed k.1.1
        (all_own all all' many (passed_fine plans sees (setting plans helps heads) there s.types all' args (subst (λ z. Passed z all' args) s.params passed) k.1.1))
    own a v (typed.call_of_row p t f r all all' args u o none h many passed i) k =
        let s = row_found env f r at.rows h in
        row_own plans fit law helps sees heads env there at p f r all' args s k.1.0 passed i k.1.1
        (all_own all all' many (row_fine plans sees (setting plans helps heads) there (params_of (signature_of s.op)) all' args (subst (λ z. Passed z.heading.params all' args) s.same passed) k.1.1))

    pub all_own : (all all' : Trees) → TypedAll env all all' → AllFine (setting plans helps heads) sees all' → AllOwn plans sees there all'
    all_own all all' typed.none k = tt
    all_own all all' (typed.more a a' rest rest' h i) k = (own a a' h k.0, all_own rest rest' i k.1)

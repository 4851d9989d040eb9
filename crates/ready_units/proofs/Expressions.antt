-- Typed expressions are ready.
use Rattle.std.proofs.Common.{refl}
use Rattle.c_tree.specs.Tree.{Tree, Trees}
use Rattle.scopes.specs.Scopes.{Env}
use Rattle.type_rules.specs.Types.{read_type}
use Rattle.expression_types.specs.Typed as typed
use Rattle.expression_types.specs.Typed.{Typed, TypedAll}
use Rattle.written_forms.specs.Seen.{Sees}
use Rattle.written_forms.specs.Moved.{Plans}
use Rattle.written_forms.specs.Planned.{AreFit}
use Rattle.written_forms.specs.Ready.{Ready, AreReady}
use Rattle.written_forms.specs.ReadyUnits.{Heads, setting}
use Rattle.ready_units.proofs.SeenObjects.{At}
use Rattle.ready_units.proofs.Sound.{Helps, Sound, SoundAll, all_sound, no_pointer}
use Rattle.ready_units.proofs.Forms.{unary_ready, binary_ready, and_ready, or_ready, choice_ready, comma_ready, step_ready, assign_ready, cast_ready, size_ready, index_ready, deref_ready, half_ready, pair_ready}
use Rattle.ready_units.proofs.Rows.{row_found, row_ready, function_ready}

module _ (plans : Plans) (fit : AreFit plans) (helps : Helps) (sees : Sees) (heads : Heads) (env : Env) (at : At env sees heads) where
  mutual
    pub ready : (a v : Tree) → Typed env a v → Sound plans helps sees v → Ready (setting plans helps heads) sees v
    ready a v (typed.constant p t n) k = refl
    ready a v (typed.object p t x o h n) k = let s = at.objects x o h in ((s.l, s.is, s.ty), s.carried)
    ready a v (typed.array p t x o e n c h i) k = no_pointer plans helps sees v e c refl k
    ready a v (typed.unary p t o b b' w h r) k = unary_ready plans helps sees (setting plans helps heads) p o b' v r (ready b b' h) k
    ready a v (typed.binary p t o b b' c c' w h i r) k = binary_ready plans helps sees (setting plans helps heads) p o b' c' v r (ready b b' h) (ready c c' i) k
    ready a v (typed.conjunction p t b b' c c' w h i r) k = and_ready plans helps sees (setting plans helps heads) p b' c' v r (ready b b' h) (ready c c' i) k
    ready a v (typed.disjunction p t b b' c c' w h i r) k = or_ready plans helps sees (setting plans helps heads) p b' c' v r (ready b b' h) (ready c c' i) k
    ready a v (typed.choice p t b b' c c' d d' w h i j r) k = choice_ready plans helps sees (setting plans helps heads) p b' c' d' v r (ready b b' h) (ready c c' i) (ready d d' j) k
    ready a v (typed.sequence p t all all' w h r) k = comma_ready plans helps sees (setting plans helps heads) p all' v r (all_ready all all' h) k
    ready a v (typed.index p t b b' c c' w h i r) k = index_ready plans helps sees (setting plans helps heads) p b' c' v r k
    ready a v (typed.dereference p t b b' w h r) k = deref_ready plans helps sees (setting plans helps heads) p b' v r k
    ready a v (typed.half_of p t b b' w n h r) k = half_ready plans helps sees (setting plans helps heads) p b' v n r k
    ready a v (typed.pair p t b b' c c' w h i r) k = pair_ready plans helps sees (setting plans helps heads) p b' c' v r k
    ready a v (typed.step p t b b' w up before h d r) k = step_ready plans helps sees (setting plans helps heads) env p b' v up before r d (ready b b' h) k
    ready a v (typed.assign p t o b b' c c' w h i d r) k = assign_ready plans helps sees (setting plans helps heads) env p o b' c' v r d (ready b b' h) (ready c c' i) k
    ready a v (typed.address p t b b' c e h d o) k = no_pointer plans helps sees v e c refl k
    ready a v (typed.cast p t u b b' w h r n) k = cast_ready plans helps sees (setting plans helps heads) p (read_type env.dialect u) b' v r (ready b b' h) k
    ready a v (typed.through p t u b b' h) k = ready b b' h k
    ready a v (typed.size p t u w r n) k = size_ready plans helps sees (setting plans helps heads) p (read_type env.dialect u) v r k
    ready a v (typed.size_of_object p t x o n h i) k = let s = at.objects x o h in (refl, (s.l, s.is))
    ready a v (typed.call_of_function p t f c all all' args u o h before none many passed i) k =
        function_ready plans helps sees heads p f c all' args (at.functions f c h before) passed (all_ready all all' many) k
    ready a v (typed.call_of_row p t f r all all' args u o none h many passed i) k =
        row_ready plans helps sees heads fit p f r all' args (row_found env f r at.rows h) passed i (all_ready all all' many) k

    pub all_ready : (all all' : Trees) → TypedAll env all all' → SoundAll plans helps sees all' → AreReady (setting plans helps heads) sees all'
    all_ready all all' typed.none k = tt
    all_ready all all' (typed.more a a' rest rest' h i) k = let s = all_sound plans helps sees a' rest' k in (ready a a' h s.0, all_ready rest rest' i s.1)

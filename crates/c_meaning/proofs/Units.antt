-- What a run knows of a unit: its functions and its tables.
use Rattle.std.proofs.Common.{◌≡◌, ℕ, ◌+◌, Bool, List, [], ◌∷◌, ◌++◌, map, length, Result, Ok, Err, IfOk, refl, sym, ap, ◌∙◌, subst}
use Rattle.std.proofs.lemmas.List.{map-append, append_assoc, append-nil, length_push}
use Rattle.c_tree.specs.declared.statements.Declared.{Declared}
use Rattle.c_tree.specs.declared.units.Function.{Function as CodeFunction}
use Rattle.c_tree.specs.declared.units.Item.{Item}
use Rattle.c_tree.specs.Tree.{External, Function, Table}
use Rattle.c_tree.specs.View.{view_declared, view_item}
use Rattle.c_memory.specs.declared.blocks.Block.{Block}
use Rattle.c_memory.specs.declared.value.Value.{Value}
use Rattle.c_memory.specs.Outcomes.{Outcome, outcome_of}
use Rattle.c_memory.specs.declared.outcome.Outcome.{Outcome as CodeOutcome}
use Rattle.std.specs.declared.alloc.AllocError.{AllocError}
use Rattle.c_memory.specs.MeaningState as state
use Rattle.c_memory.specs.MeaningState.{InBlock}
use Rattle.c_memory.specs.Meaning.{Calls, outcome, means, functions, table_block, table_blocks, table_objects}
use Rattle.c_meaning.specs.declared.calls.Callee.{Callee}
use Rattle.c_meaning.specs.declared.objects.Binding.{Binding}
use Rattle.c_meaning.specs.Bindings.{seen_binding}
use Rattle.c_meaning.specs.Flagged.{Flagged, outermost}
use Rattle.c_meaning.specs.Callees.{seen_callee}
use Rattle.c_meaning.specs.Marked.{marked}
use Rattle.c_meaning.specs.States.{at_start}
use Rattle.c_meaning.specs.Ended.{HaveEnded}
use Rattle.c_meaning.proofs.Same.{outermost_same}
use Rattle.c_meaning.proofs.Ends.{means_ended}

-- the functions behind these, with their truth values
abbrev pub known : List Callee → List Item → List Flagged
known out items = map seen_callee out ++ map marked (functions (map view_item items))

pub nothing_more : (fs : List Flagged) → fs ≡ fs ++ []
nothing_more fs = sym (append-nil fs)

noted : (x : External) (rest : List External) → map marked (functions (x ∷ rest)) ≡ map marked (functions (x ∷ [])) ++ map marked (functions rest)
noted (Function f) rest = refl
noted (Table d s) rest = refl

pub known_more : (whole : List Flagged) (out out' : List Callee) (all rest : List Item) (x : Item) → known out all ≡ whole → all ≡ x ∷ rest → map seen_callee out' ≡ map seen_callee out ++ map marked (functions (view_item x ∷ [])) → known out' rest ≡ whole
known_more whole out out' all rest x h e more =
    let others = map marked (functions (map view_item rest)) in
    ap (λ o. o ++ others) more
    ∙ append_assoc (map seen_callee out) (map marked (functions (view_item x ∷ []))) others
    ∙ ap (λ o. map seen_callee out ++ o) (sym (noted (view_item x) (map view_item rest)))
    ∙ ap (known out) (sym e) ∙ h

pub functions_known : (whole : List Flagged) (out : List Callee) → known out [] ≡ whole → map seen_callee out ≡ whole
functions_known whole out h = sym (append-nil (map seen_callee out)) ∙ h

pub passed_block : (whole blocks : List Block) (all rest : List Item) (f : CodeFunction) → blocks ++ table_blocks (map view_item all) ≡ whole → all ≡ Item.Function f ∷ rest → blocks ++ table_blocks (map view_item rest) ≡ whole
passed_block whole blocks all rest f h e = ap (λ l. blocks ++ table_blocks (map view_item l)) (sym e) ∙ h

pub passed_object : (whole : List state.Binding) (out : List Binding) (n : ℕ) (all rest : List Item) (f : CodeFunction) → map seen_binding out ++ table_objects n (map view_item all) ≡ whole → all ≡ Item.Function f ∷ rest → map seen_binding out ++ table_objects n (map view_item rest) ≡ whole
passed_object whole out n all rest f h e = ap (λ l. map seen_binding out ++ table_objects n (map view_item l)) (sym e) ∙ h

pub table_begun : (whole blocks blocks' : List Block) (all rest : List Item) (d : Declared) (s : Bool) (b : Block) → blocks ++ table_blocks (map view_item all) ≡ whole → all ≡ Item.Table d s ∷ rest → blocks' ≡ blocks ++ b ∷ [] → b ≡ table_block (view_declared d) → blocks' ++ table_blocks (map view_item rest) ≡ whole
table_begun whole blocks blocks' all rest d s b h e pushed same =
    let others = table_blocks (map view_item rest) in
    ap (λ l. l ++ others) pushed ∙ append_assoc blocks (b ∷ []) others ∙ ap (λ y. blocks ++ (y ∷ others)) same ∙ ap (λ l. blocks ++ table_blocks (map view_item l)) (sym e) ∙ h

pub table_in_scope : (whole : List state.Binding) (out out' : List Binding) (blocks blocks' : List Block) (all rest : List Item) (d : Declared) (s : Bool) (x : Binding) (b : Block) →
    map seen_binding out ++ table_objects (length blocks) (map view_item all) ≡ whole → all ≡ Item.Table d s ∷ rest → blocks' ≡ blocks ++ b ∷ [] → out' ≡ out ++ x ∷ [] →
    seen_binding x ≡ record { name = (view_declared d).name; ty = (view_declared d).ty; location = InBlock (length blocks) } → map seen_binding out' ++ table_objects (length blocks') (map view_item rest) ≡ whole
table_in_scope whole out out' blocks blocks' all rest d s x b h e grown pushed same =
    let others = table_objects (length blocks + 1) (map view_item rest) in
    ap (λ n. map seen_binding out' ++ table_objects n (map view_item rest)) (ap length grown ∙ length_push blocks b)
    ∙ ap (λ o. map seen_binding o ++ others) pushed
    ∙ ap (λ o. o ++ others) (map-append seen_binding out (x ∷ []))
    ∙ append_assoc (map seen_binding out) (seen_binding x ∷ []) others
    ∙ ap (λ y. map seen_binding out ++ (y ∷ others)) same
    ∙ ap (λ l. map seen_binding out ++ table_objects (length blocks) (map view_item l)) (sym e) ∙ h

pub tables_begun : (whole blocks : List Block) → blocks ++ table_blocks (map view_item []) ≡ whole → blocks ≡ whole
tables_begun whole blocks h = sym (append-nil blocks) ∙ h

pub tables_in_scope : (whole : List state.Binding) (out : List Binding) (n : ℕ) → map seen_binding out ++ table_objects n (map view_item []) ≡ whole → map seen_binding out ≡ whole
tables_in_scope whole out n h = sym (append-nil (map seen_binding out)) ∙ h

-- ---- the whole run

pub starts : (rows : Calls) (name : List ℕ) (args : List Value) (memory : List Block) (turns : ℕ) (tables kept here : List state.Binding) (callees fs : List Flagged) (r : Result CodeOutcome AllocError) →
    IfOk r (λ o. outcome_of o ≡ outcome (outermost tables rows callees name args (record { objects = here; memory = memory; left = turns }))) →
    here ≡ [] → callees ≡ fs → tables ≡ kept → IfOk r (λ o. outcome_of o ≡ outcome (outermost kept rows fs name args (at_start memory turns)))
starts rows name args memory turns tables kept here callees fs (Ok o) h none known over =
    h ∙ ap (λ l. outcome (outermost tables rows callees name args (record { objects = l; memory = memory; left = turns }))) none
    ∙ ap (λ t. outcome (outermost t rows callees name args (at_start memory turns))) over
    ∙ ap (λ l. outcome (outermost kept rows l name args (at_start memory turns))) known
starts rows name args memory turns tables kept here callees fs (Err e) h none known over = tt

pub run_means : (rows : Calls) (unit : List External) (name : List ℕ) (args : List Value) (memory blocks : List Block) (turns : ℕ) (tables : List state.Binding) (r : Result CodeOutcome AllocError) →
    IfOk r (λ o. outcome_of o ≡ outcome (outermost tables rows (map marked (functions unit)) name args (at_start blocks turns))) →
    tables ≡ table_objects (length memory) unit → blocks ≡ memory ++ table_blocks unit → IfOk r (λ o. outcome_of o ≡ means rows unit name args memory turns)
run_means rows unit name args memory blocks turns tables (Ok o) h ts bs =
    h ∙ ap (λ m. outcome (outermost tables rows (map marked (functions unit)) name args (at_start m turns))) bs
    ∙ ap (λ t. outcome (outermost t rows (map marked (functions unit)) name args (at_start (memory ++ table_blocks unit) turns))) ts
    ∙ ap (λ p. outcome (p (at_start (memory ++ table_blocks unit) turns))) (outermost_same (table_objects (length memory) unit) rows (functions unit) name args)
run_means rows unit name args memory blocks turns tables (Err e) h ts bs = tt

pub run_ended : (rows : Calls) (unit : List External) (name : List ℕ) (args : List Value) (memory : List Block) (turns : ℕ) (o : Outcome) → o ≡ means rows unit name args memory turns → HaveEnded (length memory + length (table_blocks unit)) o
run_ended rows unit name args memory turns o e = subst (HaveEnded (length memory + length (table_blocks unit))) (sym e) (means_ended rows unit name args memory turns)

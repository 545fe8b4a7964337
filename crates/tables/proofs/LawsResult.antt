-- What a block makes of the state that it holds.
use mathlib.Core.Path.{◌≡◌, sym, ap, subst, ◌∙◌}
use mathlib.Core.Bool.{Bool}
use mathlib.Core.List.{List}
use Prim.Native.Nat.{ℕ, ◌<◌}
use lib.ListN.{get_or}
use Rattle.paper.specs.Text.{Name}
use Rattle.paper.specs.Sheet.{Sheet, steps_of, reference_typed}
use Rattle.paper.specs.Steps.{effects, counts_of}
use Rattle.paper.specs.declared.Rule.{Rule}
use Rattle.layout.specs.Layout.{blocks_word, state_at}
use Rattle.cells.specs.States.{state_of, stored_state, RowsFit}
use Rattle.loaded.specs.Actions.{steps_at, Runnable, StepsMarked}
use Rattle.loaded.specs.Loaded.{first_step, step_total, sheet_of, counts_in}
use Rattle.tables.specs.Held.{held_state}
use Rattle.loaded.specs.Blocks.{steps_in_words}
use Rattle.tables.specs.Allowed.{loaded_honest}
use Rattle.tables.specs.Table.{Ready, ResultOf}

pub result_is : {rule : Rule} {words : List ℕ} {b : ℕ} (s : List (List ℕ)) {t : List (List ℕ)} → Ready words → b < get_or words blocks_word 0
    → ((counts : List ℕ) → RowsFit counts → state_of counts s ≡ stored_state counts (state_at b) words)
    → ((counts : List ℕ) → Runnable counts words (first_step words b) (step_total words b) → (ref : Name → Bool)
    → StepsMarked ref words (first_step words b) (step_total words b)
    → state_of counts t ≡ effects rule ref (steps_at words (first_step words b) (step_total words b)) (state_of counts s))
    → Runnable (counts_in words) words (first_step words b) (step_total words b)
    → ResultOf rule b words t
result_is {rule} {words} {b} s {t} ready h loaded ran runs = record { is = λ S e. subst (λ (S : Sheet). state_of (counts_of S) t ≡ effects rule (reference_typed S) (steps_of S b) (held_state S words b)) e.is here }
  where
    here : state_of (counts_of (sheet_of words)) t ≡ effects rule (reference_typed (sheet_of words)) (steps_of (sheet_of words) b) (held_state (sheet_of words) words b)
    here =
        unfold sheet_of counts_of in
        (ran (counts_in words) runs (reference_typed (sheet_of words)) (loaded_honest ready.loaded b h)
        ∙ ap (effects rule (reference_typed (sheet_of words)) (steps_at words (first_step words b) (step_total words b))) (loaded (counts_in words) runs.rows_fit)
        ∙ ap (λ xs. effects rule (reference_typed (sheet_of words)) xs (held_state (sheet_of words) words b)) (sym (steps_in_words words b (rw ready.loaded.whole h))))

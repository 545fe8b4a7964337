-- From what the callees promise to the text of a sheet's entry states, and from that to the outcome of a call.
use Rattle.std.specs.Prelude.{Result, Ok, Err, Option, Some}
use mathlib.Core.Path.{◌≡◌, refl, sym, ap, ◌∙◌, subst}
use mathlib.Core.Bool.{true, false, true≢false}
use mathlib.Core.List.{List, [], ◌∷◌}
use Prim.Native.Nat.{ℕ, ◌≤◌}
use native.Mathlib.Omega.{arith}
use lib.ListN.{length, get_or, replicate}
use Rattle.lists.specs.Sets.{Wrote}
use Rattle.paper.specs.Text.{Bytes, Name}
use Rattle.paper.specs.Sheet.{Sheet}
use Rattle.paper.specs.Report.{by_block, names_lines, missing_allocations}
use Rattle.paper.specs.Answer.{too_short, laid, zeros}
use Rattle.paper.specs.declared.Refusal.{Refusal}
use Rattle.paper.specs.declared.Rule.{Rule}
use Rattle.layout.specs.Layout.{blocks_word, run_words}
use Rattle.loaded.specs.Loaded.{sheet_of, Loaded}
use Rattle.sheet.specs.Reading.{Load}
use Rattle.steps.specs.Faults.{some_in}
use Rattle.runs.specs.Stands.{Analysed, analysed_sheet, analysed_loaded, analysed_state}
use Rattle.faults.specs.Missing.{step_lines, missing_lines, MissingOf}
use Rattle.faults.specs.declared.Missing.{Missing}
use Rattle.report.specs.Laid.{wrote_laid}
use Rattle.checker.specs.Checked.{lent, Stated}
use Rattle.checker.proofs.Laws.{loads_sheet, refuses_sheet}
use Rattle.checker.proofs.Texts.{text_left}
use Rattle.states.specs.EntryStates.{block_text, unless_missing, states_after, entry_states}
use Rattle.states.specs.Stated.{longest_text, states_size, Written, HoldsStates}

-- the text of a sheet

-- a sheet that is refused has none
pub refused_none : {sheet : Bytes} {before after : List ℕ} {r : Result (Unit {0}) Refusal} {refusal : Refusal} (rule : Rule) → Load sheet before after r
    → r ≡ Err refusal → entry_states rule sheet ≡ []
unfolding entry_states states_after
refused_none rule l e = rw (refuses_sheet l e)

-- a sheet that was loaded has what its words say
module _ {sheet : Bytes} {before after : List ℕ} {r : Result (Unit {0}) Refusal} (rule : Rule) (l : Load sheet before after r) (e : r ≡ (Ok tt)) where
  text_loaded : entry_states rule sheet ≡ unless_missing (missing_allocations (sheet_of after)) (by_block (block_text rule (sheet_of after)) 0 (get_or after blocks_word 0))
  unfolding entry_states states_after sheet_of
  text_loaded =
      let s = loads_sheet l e in
      rw s.1 (ap (λ (S : Sheet). unless_missing (missing_allocations S) (by_block (block_text rule S) 0 S.blocks)) (sym (unfold sheet_of in (l.meaning s.0 s.1).0)))

  pub text_full : missing_allocations (sheet_of after) ≡ [] → entry_states rule sheet ≡ by_block (block_text rule (sheet_of after)) 0 (get_or after blocks_word 0)
  unfolding unless_missing
  text_full m = text_loaded ∙ rw m

  -- an operand with no allocation: nothing
  some_lines : (block place inst : ℕ) (names : List Name) (text : Bytes) → some_in names ≡ true → unless_missing (names_lines block place inst names) text ≡ []
  unfolding unless_missing names_lines some_in
  some_lines block place inst [] text s = absurd (true≢false (sym s))
  some_lines block place inst (n ∷ names) text s = refl

  pub text_missing : {m : Option Missing} {missing : Missing} → MissingOf after m → m ≡ Some missing → entry_states rule sheet ≡ []
  unfolding missing_lines step_lines
  text_missing {m} {missing} M f =
      let N : MissingOf after (Some missing) = subst (MissingOf after) f M in
      text_loaded ∙ rw N.lines (some_lines _ _ _ _ _ N.within.3)

-- the words behind the analysis

module _ {rule : Rule} {words queue words' queue' : List ℕ} (loads : Loaded words) (a : Analysed rule words queue words' queue') where
  same_blocks : get_or words' blocks_word 0 ≡ get_or words blocks_word 0
  same_blocks = a.kept.below blocks_word (omega arith)

  pub holds_states : run_words ≤ length words → HoldsStates rule words'
  holds_states room = record {
    loaded = analysed_loaded loads a;
    room = omega (arith, a.kept.same_length);
    states = λ b h. rw (analysed_sheet loads a) (analysed_state loads a b (omega (arith, same_blocks)));
    marks = λ b h. rw (analysed_sheet loads a) (a.marks b (omega (arith, same_blocks)));
  }

  pub same_text : by_block (block_text rule (sheet_of words')) 0 (get_or words' blocks_word 0) ≡ by_block (block_text rule (sheet_of words)) 0 (get_or words blocks_word 0)
  same_text = rw (analysed_sheet loads a, same_blocks)

-- what was written

pub written_none : {text : Bytes} {out words queue words' : List ℕ} → text ≡ [] → length words' ≡ length words → Written text out words queue out words' queue 0
unfolding laid
written_none e w = rw e (record { length_is = refl; out_is = refl; same_words = w; same_queue = refl; most = omega arith })

pub written_text : {text xs : Bytes} {out words queue out' words' queue' : List ℕ} {r : ℕ} → text ≡ xs → Wrote out 0 xs out' r → r ≤ longest_text → states_size ≤ length out
    → length words' ≡ length words → length queue' ≡ length queue → Written text out words queue out' words' queue' r
written_text e w h fits same_words same_queue = rw e (record {
  length_is = omega (arith, w.next);
  out_is = wrote_laid w (omega arith);
  same_words = same_words;
  same_queue = same_queue;
  most = h;
})

-- the outcome

pub stated : {text : Bytes} {out words queue out' words₁ queue₁ words' queue' : List ℕ} {r : ℕ}
    → Written text out words queue out' words₁ queue₁ r → words' ≡ replicate (length words₁) 0 → queue' ≡ replicate (length queue₁) 0
    → too_short states_size (lent out words queue) ≡ false → Stated states_size text (lent out words queue) (lent out' words' queue') r
unfolding zeros
stated p w q e = text_left e p.length_is (rw (w, q, p.same_words, p.same_queue, p.out_is))

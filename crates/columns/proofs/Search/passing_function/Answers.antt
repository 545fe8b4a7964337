-- `columns::Search::passing_function` meets its contract: the count ends at the first field that does not pass; `blocks` has a second
-- test, that it is not 0.
use mathlib.Core.Path.{◌≡◌, sym, refl, ◌∙◌}
use mathlib.Core.Bool.{◌&&◌}
use mathlib.Core.List.{List}
use Prim.Native.Nat.{ℕ, suc}
use Rattle.paper.specs.Limits.{max_regs, max_slots, max_vregs, max_blocks}
use Rattle.paper.specs.Text.{Bytes, number_of}
use Rattle.paper.specs.Refusals.{passing, within, function_passing}
use Rattle.fields.specs.Fields.{fields_behind}
use Rattle.columns.specs.Columns.{Passed}
use Rattle.columns.proofs.LawsPassing.{shown_first, shown_second, passed_both, passed_on, some_as}
use Rattle.columns.proofs.Search.passing_function.Goals as goal

-- from `blocks` on
abbrev blocks_passing : ℕ → List Bytes → ℕ
blocks_passing number fs =
    passing number_of (λ blocks. within number (suc max_blocks) blocks && within number blocks 0) fs λ blocks fs.
    passing number_of (within number blocks) fs λ entry fs. 0

-- the three fields before it pass
after_three : (number : ℕ) {s : Bytes} {at a b c regs slots vregs n : ℕ} → Passed number_of (within number (suc max_regs)) s at regs a
    → Passed number_of (within number (suc max_slots)) s a slots b → Passed number_of (within number (suc max_vregs)) s b vregs c
    → blocks_passing number (fields_behind s c) ≡ n → suc (suc (suc n)) ≡ function_passing number (fields_behind s at)
unfolding function_passing
after_three number regs slots vregs e = sym (passed_on regs _ (passed_on slots _ (passed_on vregs _ e)))

pub returns-in_default : goal.returns-in_default
unfolding function_passing
returns-in_default c = sym (c.in_default.ensures.stops _)

pub returns-in_default-passing_number : goal.returns-in_default-passing_number
unfolding function_passing
returns-in_default-passing_number c = sym (passed_on c.in-Some.ensures.0 _ (c.in_default-passing_number.ensures.stops _))

pub returns-in_default-passing_number-2 : goal.returns-in_default-passing_number-2
unfolding function_passing
returns-in_default-passing_number-2 c =
    sym (passed_on c.in-Some.ensures.0 _ (passed_on c.in-Some-passing_number.ensures.0 _ (c.in_default-passing_number-2.ensures.stops _)))

pub returns-in_default-passing_number-3 : goal.returns-in_default-passing_number-3
returns-in_default-passing_number-3 c =
    after_three _ c.in-Some.ensures.0 c.in-Some-passing_number.ensures.0 c.in-Some-passing_number-2.ensures.0
    ((shown_first _ c.in_default-passing_number-3.ensures).stops _)

pub returns-then-self-blocks : goal.returns-then-self-blocks
returns-then-self-blocks c =
    let number = c.args.self.number in
    after_three _ c.in-Some.ensures.0 c.in-Some-passing_number.ensures.0 c.in-Some-passing_number-2.ensures.0
    ((shown_second (λ n. within number n 0) c.in-Some-passing_number-3.ensures.0 (some_as number _ ∙ rw c.if-self-blocks.true)).stops _)

pub returns-in_default-passing_number-4 : goal.returns-in_default-passing_number-4
returns-in_default-passing_number-4 c =
    let number = c.args.self.number in
    after_three _ c.in-Some.ensures.0 c.in-Some-passing_number.ensures.0 c.in-Some-passing_number-2.ensures.0
    (passed_on (passed_both (λ n. within number n 0) c.in-Some-passing_number-3.ensures.0 (some_as number _ ∙ rw c.if-self-blocks.false)) _
    (c.in_default-passing_number-4.ensures.stops _))

pub returns : goal.returns
returns c =
    let number = c.args.self.number in
    after_three _ c.in-Some.ensures.0 c.in-Some-passing_number.ensures.0 c.in-Some-passing_number-2.ensures.0
    (passed_on (passed_both (λ n. within number n 0) c.in-Some-passing_number-3.ensures.0 (some_as number _ ∙ rw c.if-self-blocks.false)) _
    (passed_on c.in-Some-passing_number-4.ensures.0 _ refl))

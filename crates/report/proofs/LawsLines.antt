-- The room that a header and a line ask for is the sum of what their parts ask for.
use mathlib.Core.List.{[], ◌∷◌}
use Prim.Native.Nat.{ℕ, ◌+◌, ◌≤◌}
use native.Mathlib.Omega.{arith}
use lib.ListN.{length}
use Rattle.paper.specs.Text.{digits}
use Rattle.paper.specs.Report.{behind_tabs, rule_text, header_text}
use Rattle.paper.specs.declared.Rule.{Rule}
use Rattle.report.specs.Lines.{field_text, field_texts, fields_line}
use Rattle.report.specs.Lengths.{behind, behind_none}
use Rattle.report.specs.declared.Position.{Position}
use Rattle.report.specs.declared.FaultFields.{FaultFields}

pub fields_room : (f : FaultFields) (at n : ℕ) → at + length (behind_tabs (digits f.kind ∷ field_texts f)) ≤ n
    → at + 5 + length (digits f.kind) + length (field_text f.location) + length (field_text f.expected)
    + length (field_text f.actual) ≤ n
unfolding field_texts
fields_room f at n h =
    omega (
      arith,
      behind (digits f.kind) (field_texts f),
      behind (field_text f.location) (field_text f.expected ∷ field_text f.actual ∷ []),
      behind (field_text f.expected) (field_text f.actual ∷ []),
      behind (field_text f.actual) [],
      behind_none,
    )

pub line_room : (p : Position) (f : FaultFields) (at n : ℕ) → at + length (fields_line p f) ≤ n
    → at + 4 + length (digits p.block) + length (digits p.place) + length (digits p.inst)
    + length (behind_tabs (digits f.kind ∷ field_texts f)) ≤ n
unfolding fields_line
line_room p f at n h =
    let rest = digits f.kind ∷ field_texts f in
    omega (
      arith,
      behind (digits p.block) (digits p.place ∷ digits p.inst ∷ rest),
      behind (digits p.place) (digits p.inst ∷ rest),
      behind (digits p.inst) rest,
    )

pub header_room : (rule : Rule) (count at n : ℕ) → at + length (header_text rule count) ≤ n
    → at + 4 + length (rule_text rule) + length (digits count) ≤ n
unfolding header_text
header_room rule count at n h = omega (arith, behind (rule_text rule) (digits count ∷ []), behind (digits count) [], behind_none)

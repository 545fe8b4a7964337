-- `sheet::read_function` meets its contract: the place that the words tell is the paper's, so what `function_line` tells holds of the
-- sheet so far; a good line finds the words blank, and its values are within their limits.
use mathlib.Core.Path.{refl, ap}
use native.Mathlib.Omega.{arith}
use Rattle.records.specs.Records.{function_line}
use Rattle.loaded.specs.Loaded.{so_far}
use Rattle.sheet.proofs.LawsProgress.{size_of, blank_of, function_placed}
use Rattle.sheet.proofs.LawsJudged.{line_refused, line_accepted}
use Rattle.sheet.proofs.read_function.Goals as goal

pub progress-reached-requires : goal.progress-reached-requires
progress-reached-requires c = size_of _ c.requires.1

pub overflow_cast-line : goal.overflow_cast-line
overflow_cast-line c = let w = c.in_ok-line.ensures.clear.1 in omega arith

pub overflow_cast-line-2 : goal.overflow_cast-line-2
overflow_cast-line-2 c = let w = c.in_ok-line.ensures.clear.1 in omega arith

pub overflow_cast-line-3 : goal.overflow_cast-line-3
overflow_cast-line-3 c = let w = c.in_ok-line.ensures.clear.1 in omega arith

pub overflow_cast-line-4 : goal.overflow_cast-line-4
overflow_cast-line-4 c = let w = c.in_ok-line.ensures.clear.1 in omega arith

pub overflow_cast-line-5 : goal.overflow_cast-line-5
overflow_cast-line-5 c = let w = c.in_ok-line.ensures.clear.1 in omega arith

pub store_function-requires : goal.store_function-requires
store_function-requires c =
    (blank_of _ c.requires.1 c.progress-reached.ensures c.in_ok-line.ensures.clear.0.placed, c.in_ok-line.ensures.clear.1)

pub returns-in_err-line : goal.returns-in_err-line
unfolding function_line
returns-in_err-line c =
    line_refused (c.function_line.ensures.result_value (so_far _) (function_placed _ c.requires.1 c.progress-reached.ensures)) _ c.from_residual.ensures.1 refl (ap function_line c.in_err-line.was)

pub returns : goal.returns
unfolding function_line
returns c =
    line_accepted (c.function_line.ensures.result_value (so_far _) (function_placed _ c.requires.1 c.progress-reached.ensures)) c.requires.1 (ap function_line c.in_ok-line.was) c.in_ok-line.ensures.clear.0.inside c.store_function.ensures

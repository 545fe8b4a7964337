-- What is given block by block, when one block more is done.
use Rattle.std.specs.Prelude.{◌≡◌, List, ◌++◌, ℕ, zero, suc, ◌+◌}
use Rattle.std.proofs.Common.{ap, append-nil, append_assoc, add-zero, add-one, arith}
use Rattle.paper.specs.Report.{by_block}

by_block_suc : {A : Type 0} (f : ℕ → List A) (b n : ℕ) → by_block f b (suc n) ≡ by_block f b n ++ f (b + n)
unfolding by_block
by_block_suc f b zero = rw (add-zero, append-nil)
by_block_suc {A} f b (suc n) =
    let e : suc b + n ≡ b + suc n = omega arith in
    rw append_assoc (ap (λ (t : List A). f b ++ t) (rw e at (by_block_suc f (suc b) n)))

pub by_block_more : {A : Type 0} (f : ℕ → List A) (n : ℕ) → by_block f 0 (n + 1) ≡ by_block f 0 n ++ f n
by_block_more f n = let e : 0 + n ≡ n = omega arith in rw add-one (rw e at (by_block_suc f 0 n))

-- The register without a text, which the table of 256 words is made of: entry k is what eight moves make of k.
use Rattle.std.specs.Prelude.{List, [], ◌∷◌, ℕ, zero, suc, ◌*◌, ◌/◌, ◌%◌}
use Rattle.std.specs.Int.Bits.{bit_xor}
use Rattle.paper.specs.Seal.{polynomial}

-- the register moves by one bit, and takes the polynomial where a 1 falls out
unfoldable pub shift : ℕ → ℕ
shift register = bit_xor (register / 2) (register % 2 * polynomial)

unfoldable pub shifts : ℕ → ℕ → ℕ
shifts zero register = register
shifts (suc n) register = shifts n (shift register)

-- the rule for n entries from k on
unfoldable pub entries : (k n : ℕ) → List ℕ
entries k zero = []
entries k (suc n) = shifts 8 k ∷ entries (suc k) n

unfoldable pub table : List ℕ
table = entries 0 256

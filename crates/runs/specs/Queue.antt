-- The blocks that wait, in a ring: `count` bytes from `front` on, round the end of the queue's first `queue_size` bytes.
use Rattle.std.specs.Prelude.{Bool, cond, List, [], ◌∷◌, ◌++◌, ℕ, zero, suc, ◌+◌, ◌-◌, ◌≤◌, ◌<◌, ltb, length, get_or}
use Rattle.paper.specs.Limits.{queue_size}

-- the place n bytes behind `front`
unfoldable pub place : ℕ → ℕ → ℕ
place front n = cond (ltb (front + n) queue_size) (front + n) (front + n - queue_size)

unfoldable pub held_from : List ℕ → ℕ → ℕ → List ℕ
held_from queue front zero = []
held_from queue front (suc n) = held_from queue front n ++ (get_or queue (place front n) 0 ∷ [])

-- there is room for them, and the ring begins inside it
abbrev pub Sound : List ℕ → ℕ → ℕ → Type 0
Sound queue front count = (queue_size ≤ length queue) × (front < queue_size) × (count ≤ queue_size)

-- one more at the end, where it is new
abbrev pub waits : Bool → ℕ → List ℕ → List ℕ
waits new b queue = cond new (queue ++ (b ∷ [])) queue

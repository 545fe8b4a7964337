-- Every limit of document 01 and the sizes of the lent buffers, each under one name.
use Rattle.std.specs.Prelude.{ℕ, ◌+◌, ◌*◌}

-- "regs 0 to 32, slots 0 to 32, vregs 0 to 256", and, document 02, A7, blocks 1 to 128: "Raise the limit to 128"
abbrev pub max_regs : ℕ
max_regs = 32

abbrev pub max_slots : ℕ
max_slots = 32

abbrev pub max_vregs : ℕ
max_vregs = 256

abbrev pub max_blocks : ℕ
max_blocks = 128

-- "0 to 8 successors"
abbrev pub max_succs : ℕ
max_succs = 8

-- "n uses then m defs, each 0 to 8"
abbrev pub max_operands : ℕ
max_operands = 8

-- "inst is 0 to 65,535. At most 1,024 step lines in all."
abbrev pub max_inst : ℕ
max_inst = 65535

abbrev pub max_steps : ℕ
max_steps = 1024

-- "Text, 1 to 65,536 bytes"
abbrev pub max_sheet : ℕ
max_sheet = 65536

-- document 02, A7: "An E line may now take 33 bytes and an `N` line 6, so the report needs 1,024 x 33 + 16 + 128 x 6 = 34,576 bytes":
-- a fault's line for each step, 16 bytes for the header, and an `N` line for each block
abbrev pub longest_fault_line : ℕ
longest_fault_line = 33

abbrev pub longest_header : ℕ
longest_header = 16

abbrev pub longest_unreached_line : ℕ
longest_unreached_line = 6

abbrev pub report_size : ℕ
report_size = max_steps * longest_fault_line + longest_header + max_blocks * longest_unreached_line

-- document 02, A3: "The sealed form needs 11 bytes more of report buffer"
abbrev pub seal_size : ℕ
seal_size = 11

abbrev pub sealed_size : ℕ
sealed_size = report_size + seal_size

-- the published sizes of the scratch: words of 16 bits for the loaded sheet and the states, bytes for the queue, which has room
-- for every visit that the old run can make
abbrev pub words_size : ℕ
words_size = 32768

abbrev pub queue_size : ℕ
queue_size = 1 + max_blocks * (4 * (max_regs + max_slots))

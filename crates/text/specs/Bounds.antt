-- Document 01's bounds and lent sizes, for a text of n bytes and an output of m.
--   text_most, out_most   a text's and an output's greatest length
--   deep_most            how many quotes, and how many lists, may be open
--   work_size n m        how many work bytes are asked for
--   numbers_size n m     how many work numbers
--   Room n m ..         a text and an output within these bounds, and enough work memory for them
--   number_most          the greatest number that a work number holds: places in tables are such
-- Assumes nothing.
use Rattle.std.specs.Prelude.{ℕ, ◌+◌, ◌*◌, ◌≤◌}

abbrev pub text_most : ℕ
text_most = 262144

abbrev pub out_most : ℕ
out_most = 16777216

abbrev pub deep_most : ℕ
deep_most = 64

abbrev pub work_size : (n m : ℕ) → ℕ
work_size n m = n + 3 * m

abbrev pub numbers_size : (n m : ℕ) → ℕ
numbers_size n m = 8 * n + 3 * m + 64

abbrev pub Room : (n m work numbers : ℕ) → Type 0
Room n m work numbers = ((n ≤ text_most) × (m ≤ out_most)) × ((work_size n m ≤ work) × (numbers_size n m ≤ numbers))

abbrev pub number_most : ℕ
number_most = 4294967295

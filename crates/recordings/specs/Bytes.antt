-- Numbers in a list of bytes, low byte first.
use Rattle.std.specs.Prelude.{ℕ, zero, suc, ◌+◌, ◌*◌, ◌^◌, Bool, ◌&&◌, List, map, ◌==◌, slice_index}
use Rattle.std.specs.List.{range_with_len}

-- the number of the k bytes from a place on
unfoldable pub number : ℕ → List ℕ → ℕ → ℕ
number zero bytes at = 0
number (suc k) bytes at = number k bytes at + slice_index bytes (at + k) * 256 ^ k

-- the n words of eight bytes from a place on
unfoldable pub words_at : List ℕ → ℕ → ℕ → List ℕ
words_at bytes at n = map (λ i. number 8 bytes (at + 8 * i)) (range_with_len 0 n)

-- a record starts with these two bytes
abbrev pub marked : ℕ → ℕ → List ℕ → ℕ → Bool
marked a b bytes at = slice_index bytes at == a && slice_index bytes (at + 1) == b

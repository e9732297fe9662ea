-- Where the meanings of the parts bind: rounds 1 to 10,000, heads 0 to 63, and t of c messages heard, c at most 64.
-- Outside nobody is heard, alarmed or given a turn, and telling does nothing.
use Rattle.std.specs.Prelude.{ℕ, Bool, ◌&&◌, nat_le, nat_lt}

abbrev pub in_time : ℕ → Bool
in_time round = nat_le 1 round && nat_le round 10000

abbrev pub at_head : ℕ → ℕ → Bool
at_head round head = in_time round && nat_lt head 64

abbrev pub counted : ℕ → ℕ → ℕ → ℕ → Bool
counted round head c t = at_head round head && (nat_le t c && nat_le c 64)

abbrev pub tellable : ℕ → ℕ → Bool
tellable round c = in_time round && nat_le c 64

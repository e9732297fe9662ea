-- The bytes of a header, one after another.
use Rattle.std.proofs.Common.{◌≡◌, ℕ, Bool, true, false, not, ◌&&◌, nat_le, nat_lt, List, length, Ok, Err, refl, arith}
use Rattle.std.proofs.lemmas.Grind.{common_steps}
use Rattle.ballots.specs.Faults.{numbered}
use Rattle.recordings.specs.declared.faults.RecordFault.{RecordFault}
use Rattle.recordings.specs.declared.kinds.VoteKind.{VoteKind}
use Rattle.recordings.specs.declared.kinds.BallotKind.{BallotKind}
use Rattle.sets.specs.Search.{when}
use Rattle.recordings.specs.Bytes.{marked}
use Rattle.recordings.specs.Files.{record_breach, vote_of, kind_of, vote_byte, kind_byte, head_count, in_range, header_breach}
use Rattle.recordings.specs.Kinds.{vote_in, kind_in}

pub vote_ok : (v : ℕ) (r : VoteKind) → Ok r ≡ vote_in v → ((nat_le 1 v && nat_le v 3) ≡ true) × (r ≡ vote_of v)
vote_ok v r e = (grind (arith, common_steps), grind (arith, common_steps))

pub vote_err : (v : ℕ) (f : RecordFault) → Err f ≡ vote_in v → ((nat_le 1 v && nat_le v 3) ≡ false) × (record_breach f ≡ numbered 22)
vote_err v f e = (grind (arith, common_steps), grind (arith, common_steps))

pub kind_ok : (k : ℕ) (r : BallotKind) → Ok r ≡ kind_in k → ((nat_le 1 k && nat_le k 2) ≡ true) × (r ≡ kind_of k)
kind_ok k r e = (grind (arith, common_steps), grind (arith, common_steps))

pub kind_err : (k : ℕ) (f : RecordFault) → Err f ≡ kind_in k → ((nat_le 1 k && nat_le k 2) ≡ false) × (record_breach f ≡ numbered 22)
kind_err k f e = (grind (arith, common_steps), grind (arith, common_steps))

-- the range decides, once the file has five bytes and its mark
pub ranged : (bytes : List ℕ) (b : Bool) → nat_lt (length bytes) 5 ≡ false → marked 0x56 0x48 bytes 0 ≡ true → in_range (vote_byte bytes) (kind_byte bytes) (head_count bytes) ≡ b
    → header_breach bytes ≡ when (not b) (numbered 22)
unfolding header_breach
ranged bytes b five mark e = rw (five, mark, e) refl

pub range_of : (v k n : ℕ) (a b c : Bool) → (nat_le 1 v && nat_le v 3) ≡ a → (nat_le 1 k && nat_le k 2) ≡ b → (nat_le 1 n && nat_le n 64) ≡ c → in_range v k n ≡ (a && (b && c))
range_of v k n a b c e f g = λ i. e i && (f i && g i)

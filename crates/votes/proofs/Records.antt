-- What the code reads of the table is what the definitions say of it.
use Rattle.std.proofs.Common.{◌≡◌, ℕ, ◌<◌, ◌≤◌, Bool, ◌&&◌, List, length, get_or, Some, refl, ap, ◌∙◌, arith}
use Rattle.std.proofs.lemmas.Option.{slice_get_read}
use Rattle.std.proofs.lemmas.Bool.{lt-ltb}
use Rattle.std.specs.List.{slice_get}
use Rattle.heads.specs.declared.head.Head.{Head}
use Rattle.heads.specs.declared.head.State.{State}
use Rattle.votes.specs.Tables.{same_state, head_in, stands}

pub read : {B : Type 0} (hs : List (Head B)) (n i : ℕ) (h : Head B) → i < n → n ≤ length hs → h ≡ get_or hs i h → slice_get hs i ≡ Some h
read hs n i h l m e = slice_get_read hs (length hs) i h refl (omega arith) e

pub stands_read : {B : Type 0} (state : State) (hs : List (Head B)) (n i : ℕ) (h : Head B) → i < n → n ≤ length hs → h ≡ get_or hs i h
    → stands state hs n i ≡ same_state h.state state
stands_read state hs n i h l m e =
    ap (λ (t : Bool). t && head_in state (slice_get hs i)) (lt-ltb i n l) ∙ ap (head_in state) (read hs n i h l m e)

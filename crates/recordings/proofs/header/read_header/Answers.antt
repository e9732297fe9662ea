use Rattle.std.proofs.Common.{true, false, Some, sym, refl, ap, ◌∙◌, subst}
use Rattle.std.proofs.lemmas.Bool.{lt-ltb, le-ltb}
use Rattle.std.proofs.lemmas.Result.{err_from_is_err_and}
use Rattle.recordings.specs.Files.{record_breach, vote_byte, kind_byte, head_count, header_breach, FileOf}
use Rattle.recordings.proofs.Headers.{vote_ok, vote_err, kind_ok, kind_err, ranged, range_of}
use Rattle.recordings.proofs.header.read_header.Goals as goal

pub returns-then-bytes-lt5 : goal.returns-then-bytes-lt5
unfolding header_breach
returns-then-bytes-lt5 c = let short = lt-ltb _ _ c.if-bytes-lt5.true in rw short

pub returns-then-not-is_marked : goal.returns-then-not-is_marked
unfolding header_breach
returns-then-not-is_marked c =
    let five = le-ltb _ _ c.if-bytes-lt5.false in
    let other = sym c.if-not-is_marked.ensures in
    rw (five, other)

pub returns-in_err-vote : goal.returns-in_err-vote
returns-in_err-vote c =
    let bytes = c.args.bytes.now in
    let p = err_from_is_err_and c.from_residual.result c.from_residual.ensures.1 in
    let e = vote_err (vote_byte bytes) c.in_err-vote.field-0.0 c.in_err-vote.ensures in
    let told = ranged bytes false (le-ltb _ _ c.if-bytes-lt5.false) (sym c.if-not-is_marked.ensures) (range_of (vote_byte bytes) (kind_byte bytes) (head_count bytes) _ _ _ e.0 refl refl) in
    subst (FileOf bytes) (sym p.1) (told ∙ ap Some (sym (ap record_breach p.2 ∙ e.1)))

pub returns-in_err-kind : goal.returns-in_err-kind
returns-in_err-kind c =
    let bytes = c.args.bytes.now in
    let p = err_from_is_err_and c.from_residual-in_err-kind.result c.from_residual-in_err-kind.ensures.1 in
    let v = vote_ok (vote_byte bytes) c.in_ok-vote.vote c.in_ok-vote.ensures in
    let e = kind_err (kind_byte bytes) c.in_err-kind.field-0.0 c.in_err-kind.ensures in
    let told = ranged bytes false (le-ltb _ _ c.if-bytes-lt5.false) (sym c.if-not-is_marked.ensures) (range_of (vote_byte bytes) (kind_byte bytes) (head_count bytes) _ _ _ v.0 e.0 refl) in
    subst (FileOf bytes) (sym p.1) (told ∙ ap Some (sym (ap record_breach p.2 ∙ e.1)))

pub returns-then-not-is_head_count : goal.returns-then-not-is_head_count
returns-then-not-is_head_count c =
    let bytes = c.args.bytes.now in
    let v = vote_ok (vote_byte bytes) c.in_ok-vote.vote c.in_ok-vote.ensures in
    let k = kind_ok (kind_byte bytes) c.in_ok-kind.kind c.in_ok-kind.ensures in
    ranged bytes false (le-ltb _ _ c.if-bytes-lt5.false) (sym c.if-not-is_marked.ensures) (range_of (vote_byte bytes) (kind_byte bytes) (head_count bytes) _ _ _ v.0 k.0 (sym c.if-not-is_head_count.ensures.value))

pub returns : goal.returns
returns c =
    let bytes = c.args.bytes.now in
    let v = vote_ok (vote_byte bytes) c.in_ok-vote.vote c.in_ok-vote.ensures in
    let k = kind_ok (kind_byte bytes) c.in_ok-kind.kind c.in_ok-kind.ensures in
    record {
      sound = ranged bytes true (le-ltb _ _ c.if-bytes-lt5.false) (sym c.if-not-is_marked.ensures) (range_of (vote_byte bytes) (kind_byte bytes) (head_count bytes) _ _ _ v.0 k.0 (sym c.if-not-is_head_count.ensures.value));
      source = refl;
      vote = v.1;
      kind = k.1;
      heads = refl;
    }

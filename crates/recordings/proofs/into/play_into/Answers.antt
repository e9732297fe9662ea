use Rattle.std.proofs.Common.{◌≡◌, ℕ, List, sym, refl, ap, ◌∙◌, subst}
use Rattle.recordings.specs.declared.file.File.{File}
use Rattle.recordings.specs.Files.{Named, kind_of, kind_byte, vote_of, vote_byte, head_count, unless_header, played_kind, played}
use Rattle.recordings.specs.Into.{PlayedTo}
use Rattle.recordings.proofs.into.play_into.Goals as goal

-- a sound header names what is played
named : (bytes : List ℕ) (f : File) → Named bytes f → played bytes ≡ played_kind f.kind f.vote f.heads f.bytes.now
unfolding played
named bytes f is =
    ap (λ b. unless_header b (played_kind (kind_of (kind_byte bytes)) (vote_of (vote_byte bytes)) (head_count bytes) bytes)) is.sound
    ∙ sym (λ i. played_kind (is.kind i) (is.vote i) (is.heads i) (is.source i))

pub returns-in-Ok : goal.returns-in-Ok
returns-in-Ok g c =
    let h = c.play_file in
    subst (λ p. PlayedTo g.R.Sink.takes g.R.Sink.stops g.H.Sink.takes g.H.Sink.stops p c.args.rounds.now h.new.rounds c.args.heads.now h.new.heads h.result)
    (sym (named c.args.bytes.now c.in-Ok.file c.in-Ok.ensures)) h.ensures

pub returns-in-Err : goal.returns-in-Err
unfolding played
returns-in-Err g c = rw c.in-Err.ensures (g.met.R.Sink.laws.none c.args.rounds.now, g.met.H.Sink.laws.none c.args.heads.now, refl)

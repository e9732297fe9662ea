use Rattle.std.proofs.Common.{◌≡◌, None, fold, refl, rules}
use Rattle.std.specs.List.{range_with_len}
use Rattle.std.proofs.lemmas.Iterator.{YieldsList-from_range}
use Rattle.std.proofs.lemmas.Iterator.Consumers.{fold_from_yields_List}
use Rattle.channels.specs.Capture.{closer}
use Rattle.channels.specs.Nearest.{found_none, found_fold}
use Rattle.channels.proofs.capture.CaptureChannel.nearest.Goals as goal

pub returns : goal.returns
returns c =
    let p = c.args.self.now.positions in
    let h = c.args.hearer in
    let s = c.args.senders in
    let folded : c.fold.result ≡ fold (closer p h s) None (range_with_len 0 64) =
    fold_from_yields_List _ (closer p h s) None _ c.fold.ensures.ran (YieldsList-from_range 0 64 64 refl refl) (λ a x b q k. search rules) in
    rw folded (found_fold p h s 0 64 None (found_none p h s))

-- The ways in which a driving ends.
use Rattle.std.proofs.Common.{◌≡◌, ℕ, ◌+◌, Bool, true, false, cond, not, eqb, ltb, List, map, length, get_or, Some, None, Ok, Err, Option, Result, sym, refl, ap, ◌∙◌, subst, ap₂}
use Rattle.std.proofs.lemmas.Bool.{true≢false, eq-eqb, ne_eqb}
use Rattle.std.specs.List.{range_with_len}
use Rattle.sets.specs.Sets.{word_of}
use Rattle.sets.proofs.Words.{word_same}
use Rattle.sets.proofs.Searches.{or_else_next, or_else_this, when_true, when_false}
use Rattle.ballots.specs.Faults.{Breach, numbered, in_round, at_head}
use Rattle.heads.specs.declared.head.Head.{Head}
use Rattle.heads.specs.Rules.{Scheme}
use Rattle.parts.specs.Channels as channels
use Rattle.parts.specs.Detectors as detectors
use Rattle.parts.specs.Managers as managers
use Rattle.votes.specs.declared.faults.Refused.{Refused}
use Rattle.votes.specs.declared.faults.VoteFault.{VoteFault}
use Rattle.votes.specs.declared.faults.VoteFault.TheVariants.{ShortTable, WordCount, IdleStop}
use Rattle.votes.specs.declared.stages.Vote.{Vote}
use Rattle.votes.specs.declared.stages.OpenRound.{OpenRound}
use Rattle.votes.specs.declared.stages.HeardRound.{HeardRound}
use Rattle.votes.specs.declared.stages.Figures.{Figures}
use Rattle.votes.specs.Faults.{vote_breach}
use Rattle.votes.specs.Tables.{running, lowest_idle}
use Rattle.votes.specs.Rounds.{Report, sent, report_breach, after}
use Rattle.votes.specs.Calls.{done, refused, unless, changed, Begun, Opened, begun_as, opened_as, at_lowest, short_table, word_count, rounds_spent, open_breach, open_answer, opened, withdrawn, hear_breach, figures_of, hear_answer, heard, heard_table, running_in}
use Rattle.runs.specs.Driving.{Driving, round, runners, turns, sending, alarm, words, alarms, report, early_breach, drive_breach, driven_table, driven_list}
use Rattle.runs.proofs.Answered.{accepted_by, refused_by}
use Rattle.runs.proofs.Views.{none_both, when_none}
use Rattle.runs.proofs.Drivings.{length_words, word_at}
use Rattle.runs.specs.Driving.{word_for, alarm_for}
use Rattle.driving.specs.Drives.{by_parts, Managed, Drives}

-- the running heads, or a table that is too short
run_known : {B : Type 0} (n u : ℕ) (hs : List (Head B)) → running_in n hs ≡ Ok u → (ltb (length hs) n ≡ false) × (u ≡ running hs n)
run_known n u hs e = go (ltb (length hs) n) refl e
  where
    is_ok : Result ℕ VoteFault → Bool
    is_ok (Ok x) = true
    is_ok (Err x) = false

    go : (b : Bool) → ltb (length hs) n ≡ b → cond b (Err ShortTable) (Ok (running hs n)) ≡ Ok u → (ltb (length hs) n ≡ false) × (u ≡ running hs n)
    go true f e = absurd (true≢false (sym (ap is_ok e)))
    go false f e = (f, (let z : u ≡ running hs n = cc in z))

too_short : {B : Type 0} (n : ℕ) (fault : VoteFault) (hs : List (Head B)) → running_in n hs ≡ Err fault → (ltb (length hs) n ≡ true) × (fault ≡ ShortTable)
too_short n fault hs e = go (ltb (length hs) n) refl e
  where
    is_ok : Result ℕ VoteFault → Bool
    is_ok (Ok x) = true
    is_ok (Err x) = false

    go : (b : Bool) → ltb (length hs) n ≡ b → cond b (Err ShortTable) (Ok (running hs n)) ≡ Err fault → (ltb (length hs) n ≡ true) × (fault ≡ ShortTable)
    go true f e = (f, (let z : fault ≡ ShortTable = cc in z))
    go false f e = absurd (true≢false (ap is_ok e))

-- ---- the checks of a driving, one by one

module _ {B : Type 0} (d : Driving B) (list : List ℕ) where
  early_four : ltb (length d.table) d.n ≡ true → early_breach d list ≡ Some (numbered 4)
  unfolding early_breach
  early_four e = or_else_this _ _ (numbered 4) (when_true _ _ e)

  module _ (long : short_table d.n d.table ≡ None) where
    early_eight : eqb (length list) d.n ≡ false → early_breach d list ≡ Some (in_round 8 (round d))
    unfolding early_breach
    early_eight e = or_else_next _ _ long ∙ or_else_this _ _ (in_round 8 (round d)) (when_true _ _ (ap not e))

    module _ (counted : word_count d.n (round d) list ≡ None) where
      early_open : (b : Breach) → open_breach d.n (round d) d.table (turns d) ≡ Some b → early_breach d list ≡ Some b
      unfolding early_breach
      early_open b e = or_else_next _ _ long ∙ or_else_next _ _ counted ∙ or_else_this _ _ b e

      module _ (opened : open_breach d.n (round d) d.table (turns d) ≡ None) where
        early_nine : (head : ℕ) → lowest_idle d.stops (runners d) ≡ Some head → early_breach d list ≡ Some (at_head 9 (round d) head)
        unfolding early_breach
        early_nine head e = or_else_next _ _ long ∙ or_else_next _ _ counted ∙ or_else_next _ _ opened ∙ ap (at_lowest 9 (round d)) e

        early_none : lowest_idle d.stops (runners d) ≡ None → early_breach d list ≡ None
        unfolding early_breach
        early_none e = or_else_next _ _ long ∙ or_else_next _ _ counted ∙ or_else_next _ _ opened ∙ ap (at_lowest 9 (round d)) e

  spelled_words : map (word_for d.parts.channel (round d) (runners d) (sending d)) (range_with_len 0 d.n) ≡ words d
  unfolding words
  spelled_words = refl

  spelled_alarms : word_of (length (words d)) (λ i. alarm_for d.parts.detector (round d) (runners d) (sending d) (get_or (words d) i 0) i) ≡ alarms d
  unfolding alarms
  spelled_alarms =
      ap (λ (k : ℕ). word_of k (λ i. alarm_for d.parts.detector (round d) (runners d) (sending d) (get_or (words d) i 0) i)) (length_words d)
      ∙ word_same d.n _ (alarm d) (λ i l. ap (λ (w : ℕ). alarm_for d.parts.detector (round d) (runners d) (sending d) w i) (word_at d i l))

  -- what hearing checks again was checked before
  hearing_again : early_breach d list ≡ None
      → hear_breach d.scheme d.n (round d) (sending d) d.table (report d) ≡ report_breach d.scheme (runners d) (sending d) (round d) (words d) (alarms d)
  unfolding early_breach hear_breach
  hearing_again e =
      let a = none_both (short_table d.n d.table) _ e in
      let b = none_both (word_count d.n (round d) list) _ a.1 in
      let c = none_both (open_breach d.n (round d) d.table (turns d)) _ b.1 in
      let f = none_both (rounds_spent (round d)) _ (none_both (short_table d.n d.table) _ c.0).1 in
      or_else_next _ _ a.0
      ∙ or_else_next _ _ (when_false (ltb 10000 (round d)) (in_round 15 (round d)) (when_none (ltb 10000 (round d)) (in_round 5 (round d)) f.0))
      ∙ or_else_next _ _ (when_false (not (eqb (length (words d)) d.n)) (in_round 8 (round d)) (ap not (eq-eqb (length (words d)) d.n (length_words d))))
      ∙ or_else_next _ _ c.1

module _ {V B M : Type 0} (earlier : B → B → Bool) (tells : M → ℕ → ℕ → ℕ → M → Type 0) (meant : M → managers.Meaning) (s : Scheme B) (vote : Vote V) (hs : List (Head B)) (stops : ℕ)
    (ch : channels.Meaning) (de : detectors.Meaning) (ma : managers.Meaning) (list : List ℕ) (m : M) where
  abbrev d : Driving B
  d = by_parts s vote hs stops ch de ma

  -- a refusal before the channel is asked
  early_end : (b : Breach) → early_breach d list ≡ Some b → (fault : VoteFault) → vote_breach fault ≡ b → (back : Vote V) → begun_as back ≡ begun_as vote
      → Drives earlier tells meant vote d list m (Err (record { back = back; fault = fault })) hs list m
  early_end b e fault f back k =
      let whole = or_else_this (early_breach d list) (report_breach s (runners d) (sending d) (round d) (words d) (alarms d)) b e in
      record {
        answers = ap₂ refused f k ∙ sym (ap (λ o. unless o would (begun_as vote)) whole);
        table = sym (ap (λ o. changed o (after earlier s vote.n (sending d) (round d) hs (report d)) hs) whole);
        words = sym (ap (λ o. changed o (words d) list) e);
        manager = subst (λ o. Managed o tells meant m (round d) (sent (sending d)) (alarms d) m) (sym whole) refl;
      }
    where
      would : Begun V × Figures
      would = (record { n = vote.n; heard = vote.heard + 1; method = vote.method }, figures_of vote.n (vote.heard + 1) (sending d) (alarms d) (after earlier s vote.n (sending d) (vote.heard + 1) hs (report d)))

  pub short_ends : (fault : VoteFault) → running_in vote.n hs ≡ Err fault → Drives earlier tells meant vote d list m (Err (record { back = vote; fault = fault })) hs list m
  short_ends fault e =
      let t = too_short vote.n fault hs e in
      early_end (numbered 4) (at_four t.0) fault (ap vote_breach t.1) vote refl
    where
      at_four : ltb (length hs) vote.n ≡ true → early_breach d list ≡ Some (numbered 4)
      at_four f = early_four d list f

  module _ (u : ℕ) (is : running_in vote.n hs ≡ Ok u) (r : ℕ) (r-is : r ≡ vote.heard) where
    long : short_table vote.n hs ≡ None
    long = when_false (ltb (length hs) vote.n) (numbered 4) (run_known vote.n u hs is).0

    u_is : u ≡ runners d
    u_is = (run_known vote.n u hs is).1

    round_is : r + 1 ≡ round d
    round_is = ap (λ (x : ℕ). x + 1) r-is

    pub count_ends : (k : ℕ) → k ≡ vote.n → (length list ≡ k → ⊥) → Drives earlier tells meant vote d list m (Err (record { back = vote; fault = WordCount (r + 1) })) hs list m
    count_ends k e f =
        early_end (in_round 8 (round d)) (early_eight d list long (ne_eqb (length list) vote.n (λ g. f (g ∙ sym e)))) (WordCount (r + 1)) (ap (in_round 8) round_is) vote refl

    module _ (same : length list ≡ vote.n) (τ : ℕ) (τ-is : τ ≡ ma.rule (r + 1) u) (o : Result (OpenRound V) (Refused (Vote V))) (o_is : open_answer o ≡ opened s vote hs τ) where
      turns_is : τ ≡ turns d
      turns_is = τ-is ∙ ap₂ (λ (x y : ℕ). ma.rule x y) round_is u_is

      counted : word_count vote.n (round d) list ≡ None
      counted = when_false (not (eqb (length list) vote.n)) (in_round 8 (round d)) (ap not (eq-eqb (length list) vote.n same))

      made : Opened V
      made = record { n = vote.n; heard = vote.heard; method = vote.method; senders = sending d; spent = false }

      open_is : open_answer o ≡ unless (open_breach vote.n (round d) hs (turns d)) made vote
      unfolding made
      open_is = o_is ∙ ap (opened s vote hs) turns_is

      pub open_ends : (e x : Refused (Vote V)) → o ≡ Err e → x ≡ e → (answer : Result (HeardRound V) (Refused (Vote V))) → answer ≡ Err x → Drives earlier tells meant vote d list m answer hs list m
      open_ends e x f same-fault answer a =
          let g = refused_by (open_breach vote.n (round d) hs (turns d)) (vote_breach e.fault) e.back made vote (sym (ap open_answer f) ∙ open_is) in
          subst (λ (y : Result (HeardRound V) (Refused (Vote V))). Drives earlier tells meant vote d list m y hs list m) (sym (a ∙ ap Err same-fault))
          (early_end (vote_breach e.fault) (early_open d list long counted _ g.0) e.fault refl e.back (ap begun_as g.1))

      module _ (op : OpenRound V) (op-is : o ≡ Ok op) where
        opened_by : (open_breach vote.n (round d) hs (turns d) ≡ None) × (opened_as op ≡ made)
        opened_by = accepted_by (open_breach vote.n (round d) hs (turns d)) (opened_as op) made vote (sym (ap open_answer op-is) ∙ open_is)

        as_made : opened_as op ≡ made
        as_made = opened_by.1

        withdrawn_is : (v : Vote V) → begun_as v ≡ withdrawn op → begun_as v ≡ begun_as vote
        unfolding made
        withdrawn_is v e = e ∙ ap (λ (x : Opened V). record { n = x.n; heard = x.heard; method = x.method }) as_made

        pub stop_ends : (head : ℕ) → lowest_idle stops u ≡ Some head → (v : Vote V) → begun_as v ≡ withdrawn op
            → Drives earlier tells meant vote d list m (Err (record { back = v; fault = IdleStop (r + 1) head })) hs list m
        stop_ends head e v k =
            early_end (at_head 9 (round d) head) (early_nine d list long counted opened_by.0 head (ap (lowest_idle stops) (sym u_is) ∙ e)) (IdleStop (r + 1) head)
            (ap (λ (x : ℕ). at_head 9 x head) round_is) v (withdrawn_is v k)

        module _ (none : lowest_idle stops u ≡ None) (σ : ℕ) (σ-is : σ ≡ op.senders) (ws : List ℕ) (ws-is : ws ≡ map (word_for ch (r + 1) u σ) (range_with_len 0 (length list)))
            (al : ℕ) (al-is : al ≡ word_of (length ws) (λ i. alarm_for de (r + 1) u σ (get_or ws i 0) i)) where
          no_early : early_breach d list ≡ None
          no_early = early_none d list long counted opened_by.0 (ap (lowest_idle stops) (sym u_is) ∙ none)

          sending_is : σ ≡ sending d
          unfolding made
          sending_is = σ-is ∙ ap (λ (x : Opened V). x.senders) as_made

          words_are : ws ≡ words d
          words_are = ws-is ∙ ap (λ (x : ℕ). map (word_for ch (r + 1) u σ) (range_with_len 0 x)) same
              ∙ ap (λ (x : ℕ). map (word_for ch x u σ) (range_with_len 0 vote.n)) round_is
              ∙ ap₂ (λ (x y : ℕ). map (word_for ch (round d) x y) (range_with_len 0 vote.n)) u_is sending_is
              ∙ spelled_words d list

          alarms_are : al ≡ alarms d
          alarms_are = al-is
              ∙ ap (λ (l : List ℕ). word_of (length l) (λ i. alarm_for de (r + 1) u σ (get_or l i 0) i)) words_are
              ∙ ap (λ (x : ℕ). word_of (length (words d)) (λ i. alarm_for de x u σ (get_or (words d) i 0) i)) round_is
              ∙ ap₂ (λ (x y : ℕ). word_of (length (words d)) (λ i. alarm_for de (round d) x y (get_or (words d) i 0) i)) u_is sending_is
              ∙ spelled_alarms d list

          module _ (h : Result (HeardRound V) (Refused (OpenRound V))) (h-is : hear_answer h ≡ heard earlier s op hs (record { words = ws; alarms = al; stops = stops }))
              (t : List (Head B)) (t-is : t ≡ heard_table earlier s op hs (record { words = ws; alarms = al; stops = stops })) where
            report_is : ◌≡◌ {A = Report} (record { words = ws; alarms = al; stops = stops }) (report d)
            report_is = ap₂ (λ (x : List ℕ) (y : ℕ). record { words = x; alarms = y; stops = stops }) words_are alarms_are

            breach_from : Opened V → Option Breach
            breach_from x = hear_breach s x.n (x.heard + 1) x.senders hs (report d)

            -- the checks that hearing repeats find nothing
            breach_is : hear_breach s op.n (op.heard + 1) op.senders hs (report d) ≡ report_breach s (runners d) (sending d) (round d) (words d) (alarms d)
            unfolding breach_from made
            breach_is = ap breach_from as_made ∙ hearing_again d list no_early

            after_is : after earlier s op.n op.senders (op.heard + 1) hs (report d) ≡ after earlier s vote.n (sending d) (round d) hs (report d)
            unfolding made
            after_is = ap (λ (x : Opened V). after earlier s x.n x.senders (x.heard + 1) hs (report d)) as_made

            whole : drive_breach d list ≡ report_breach s (runners d) (sending d) (round d) (words d) (alarms d)
            whole = or_else_next (early_breach d list) (report_breach s (runners d) (sending d) (round d) (words d) (alarms d)) no_early

            heard_is : hear_answer h ≡ heard earlier s op hs (report d)
            heard_is = h-is ∙ ap (heard earlier s op hs) report_is

            table_is : t ≡ changed (hear_breach s op.n (op.heard + 1) op.senders hs (report d)) (after earlier s op.n op.senders (op.heard + 1) hs (report d)) hs
            table_is = t-is ∙ ap (heard_table earlier s op hs) report_is

            table_end : t ≡ driven_table d earlier list
            table_end = table_is ∙ ap₂ (λ (o : Option Breach) (x : List (Head B)). changed o x hs) (breach_is ∙ sym whole) after_is

            words_end : ws ≡ driven_list d list
            words_end = words_are ∙ sym (ap (λ o. changed o (words d) list) no_early)

            gives : Opened V → Begun V × Figures
            gives x = (record { n = x.n; heard = x.heard + 1; method = x.method }, figures_of x.n (x.heard + 1) x.senders (alarms d) (after earlier s x.n x.senders (x.heard + 1) hs (report d)))

            pub heard_ends : (hr : HeardRound V) → h ≡ Ok hr → (c : ℕ) → c ≡ sent σ → (m' : M) → tells m (r + 1) c al m' → managers.Told (meant m) (r + 1) c (meant m') → Drives earlier tells meant vote d list m (Ok hr) t ws m'
            unfolding gives made
            heard_ends hr f c c-is m' told last =
                let g = accepted_by (hear_breach s op.n (op.heard + 1) op.senders hs (report d)) (begun_as hr.vote, hr.figures) (gives (opened_as op)) op (sym (ap hear_answer f) ∙ heard_is) in
                let clear : drive_breach d list ≡ None = whole ∙ sym breach_is ∙ g.0 in
                record {
                  answers = ap done (g.1 ∙ ap gives as_made) ∙ sym (ap (λ o. unless o (gives made) (begun_as vote)) clear);
                  table = table_end;
                  words = words_end;
                  manager = subst (λ o. Managed o tells meant m (round d) (sent (sending d)) (alarms d) m') (sym clear) (
                    subst (λ (x : ℕ). tells m (round d) (sent (sending d)) x m') alarms_are
                        (subst (λ (x : ℕ). tells m (round d) x al m') (c-is ∙ ap sent sending_is) (subst (λ (x : ℕ). tells m x c al m') round_is told)),
                    subst (λ (x : ℕ). managers.Told (meant m) (round d) x (meant m')) (c-is ∙ ap sent sending_is)
                        (subst (λ (x : ℕ). managers.Told (meant m) x c (meant m')) round_is last),
                  );
                }

            pub refused_ends : (e : Refused (OpenRound V)) → h ≡ Err e → (v : Vote V) → begun_as v ≡ withdrawn e.back → Drives earlier tells meant vote d list m (Err (record { back = v; fault = e.fault })) t ws m
            unfolding gives made
            refused_ends e f v k =
                let g = refused_by (hear_breach s op.n (op.heard + 1) op.senders hs (report d)) (vote_breach e.fault) e.back (gives (opened_as op)) op (sym (ap hear_answer f) ∙ heard_is) in
                let broken : drive_breach d list ≡ Some (vote_breach e.fault) = whole ∙ sym breach_is ∙ g.0 in
                record {
                  answers = ap (refused (vote_breach e.fault)) (withdrawn_is v (k ∙ ap withdrawn g.1)) ∙ sym (ap (λ o. unless o (gives made) (begun_as vote)) broken);
                  table = table_end;
                  words = words_end;
                  manager = subst (λ o. Managed o tells meant m (round d) (sent (sending d)) (alarms d) m) (sym broken) refl;
                }

-- A pass takes another in, and the rule is kept.
use Rattle.std.proofs.Common.{◌≡◌, ◌≢◌, ◌⊎◌, inl, inr, ℕ, suc, ◌-◌, ◌<◌, List, [], ◌∷◌, ◌++◌, map, refl, sym, ◌∙◌, ap, subst, append_assoc, None, arith}
use Rattle.std.proofs.lemmas.List.{map-append}
use Rattle.std.specs.List.{AllByRecursion}
use Rattle.flit_model.specs.Histories.{IsRightAt}
use Rattle.flit_model.specs.States.{State}
use Rattle.flit_model.specs.declared.calls.Entry.{Entry}
use Rattle.flit_structure.specs.declared.workers.Worker.{Worker}
use Rattle.flit_structure.specs.Moments.{Moment, IsNew, HaveDifferentNames}
use Rattle.flit_structure.specs.Meanings.{Meaning, Happens}
use Rattle.flit_structure.specs.Lawful.{Lawful, StandsFrom}
use Rattle.flit_structure.proofs.Names.{all_left, all_right, all_both, all_put, all_map, different_split, AreApart, apart_turned}
use Rattle.flit_structure.proofs.Positions.{right_later, stands_later}
use Rattle.flit_table.specs.declared.views.Logged.{Logged}
use Rattle.flit_table.specs.declared.views.Origin.{Origin}
use Rattle.flit_table.specs.declared.views.Post.{Post}
use Rattle.flit_table.specs.declared.views.View.{View}
use Rattle.flit_table.specs.Logs.{settled_in, longer_log, shorter_log}
use Rattle.flit_table.specs.Views.{content_of, name_of, answered, updates_in, reads_in, new_posts, workers_of, posts_of, used_of, all_workers, updates_seen, HasName, both, spent}
use Rattle.flit_table.specs.Orders.{StandBy}
use Rattle.flit_table.proofs.Standing.{stand_grown, stand_behind, stand_before, no_reads_of}
use Rattle.flit_table.specs.Moves.{HasNoneQueued}
use Rattle.flit_table.specs.Rule.{Account, moment_of, IsLicensed, IsWithinBounds, Agrees, HasWhole, Kept}
use Rattle.flit_table.proofs.LogLaws.{continues_same, seen_grows}
use Rattle.flit_table.proofs.JoinedLogs.{AreJoined, logs_joined}
use Rattle.flit_table.proofs.ViewWorkers.{all_zip, posts_all, workers_joined, posts_head, all_joined, all_among}
use Rattle.flit_table.proofs.Accounts.{answered-append, updates-append, account_behind, account_before}
use Rattle.flit_table.proofs.Resting.{reads-append}
use Rattle.flit_table.proofs.Splitting.{none_of, whole_front}
use Rattle.flit_table.proofs.Reordering as reordering

no_names : (n : ℕ) → 0 < n → n ≡ 0 → ⊥
no_names n h e = omega arith

module _ {Op : Type 0} where
  has_left : (n : ℕ) (ps qs : List (Post Op)) → HasName n ps → HasName n (ps ++ qs)
  has_left n [] qs h = absurd h
  has_left n (p ∷ ps) qs (inl e) = inl e
  has_left n (p ∷ ps) qs (inr h) = inr (has_left n ps qs h)

  has_right : (n : ℕ) (ps qs : List (Post Op)) → HasName n qs → HasName n (ps ++ qs)
  has_right n [] qs h = h
  has_right n (p ∷ ps) qs h = inr (has_right n ps qs h)

module _ {S Op : Type 0} where
  pub posts_both : (v w : View S Op) → 0 < v.names → posts_of (both v w) ≡ posts_of v ++ posts_of w
  posts_both v w some =
      let X = new_posts (suc v.name) (v.names - 1) in
      posts_head (both v w) some ∙ ap (λ (ps : List (Post Op)). v.post ∷ ps) (sym (append_assoc X v.gone (posts_of w)))
      ∙ ap (λ (ps : List (Post Op)). ps ++ posts_of w) (sym (posts_head v some))

  used_all : (P : Post Op → Type 0) (w : View S Op) → 0 < w.names → AllByRecursion P (posts_of w) → AllByRecursion P (used_of w)
  used_all P w some h =
      let k : AllByRecursion P (w.post ∷ (new_posts (suc w.name) (w.names - 1) ++ w.gone)) = subst (AllByRecursion P) (posts_head w some) h in
      (k.0, all_right P (new_posts (suc w.name) (w.names - 1)) w.gone k.1)

  used_among : (n : ℕ) (w : View S Op) → 0 < w.names → HasName n (used_of w) → HasName n (posts_of w)
  used_among n w some h = subst (HasName n) (sym (posts_head w some)) (by_case h)
    where
      by_case : HasName n (used_of w) → HasName n (w.post ∷ (new_posts (suc w.name) (w.names - 1) ++ w.gone))
      by_case (inl e) = inl e
      by_case (inr k) = inr (has_right n (new_posts (suc w.name) (w.names - 1)) w.gone k)

  used_first : (n : ℕ) (v w : View S Op) → HasName n (used_of v) → HasName n (used_of (both v w))
  used_first n v w (inl e) = inl e
  used_first n v w (inr h) = inr (has_left n v.gone (posts_of w) h)

  used_second : (n : ℕ) (v w : View S Op) → 0 < w.names → HasName n (used_of w) → HasName n (used_of (both v w))
  used_second n v w some h = inr (has_right n v.gone (posts_of w) (used_among n w some h))

  whole_back : (log : List Logged) (xs ys : List (View S Op)) → HasWhole log ys → HasWhole log (xs ++ ys)
  whole_back log [] ys h = h
  whole_back log (x ∷ xs) ys h = inr (whole_back log xs ys h)

  pub whole_cases : (log : List Logged) (xs ys : List (View S Op)) → HasWhole log (xs ++ ys) → HasWhole log xs ⊎ HasWhole log ys
  whole_cases log [] ys h = inr h
  whole_cases log (x ∷ xs) ys (inl e) = inl (inl e)
  whole_cases log (x ∷ xs) ys (inr h) = by_case (whole_cases log xs ys h)
    where
      by_case : HasWhole log xs ⊎ HasWhole log ys → HasWhole log (x ∷ xs) ⊎ HasWhole log ys
      by_case (inl k) = inl (inr k)
      by_case (inr k) = inr k

  -- two views of a list in which one has the whole log, of two places
  whole_two : (log : List Logged) (a b c : List (View S Op)) (x y p q : View S Op) → (x.log ≡ log → (p.log ≡ log) ⊎ (q.log ≡ log)) →
      (y.log ≡ log → (p.log ≡ log) ⊎ (q.log ≡ log)) →
      HasWhole log (a ++ x ∷ (b ++ y ∷ c)) → HasWhole log (a ++ p ∷ (b ++ q ∷ c))
  whole_two log a b c x y p q f g h = in_three (whole_cases log a (x ∷ (b ++ y ∷ c)) h)
    where
      at_one : (p.log ≡ log) ⊎ (q.log ≡ log) → HasWhole log (p ∷ (b ++ q ∷ c))
      at_one (inl e) = inl e
      at_one (inr e) = inr (whole_back log b (q ∷ c) (inl e))

      in_back : HasWhole log b ⊎ HasWhole log (y ∷ c) → HasWhole log (p ∷ (b ++ q ∷ c))
      in_back (inl k) = inr (whole_front log b (q ∷ c) k)
      in_back (inr (inl e)) = at_one (g e)
      in_back (inr (inr k)) = inr (whole_back log b (q ∷ c) (inr k))

      in_rest : HasWhole log (x ∷ (b ++ y ∷ c)) → HasWhole log (p ∷ (b ++ q ∷ c))
      in_rest (inl e) = at_one (f e)
      in_rest (inr k) = in_back (whole_cases log b (y ∷ c) k)

      in_three : HasWhole log a ⊎ HasWhole log (x ∷ (b ++ y ∷ c)) → HasWhole log (a ++ p ∷ (b ++ q ∷ c))
      in_three (inl k) = whole_front log a (p ∷ (b ++ q ∷ c)) k
      in_three (inr k) = whole_back log a (p ∷ (b ++ q ∷ c)) (in_rest k)

module _ {S Op : Type 0} (meaning : Meaning Op) (laws : Lawful meaning) (o : Origin S) (m : State) (log : List Logged) where
  -- the view of the two, where no name of the one is in the other
  module _ (us : List (Worker Op)) (v w : View S Op) (some : 0 < v.names) (others : 0 < w.names)
      (apart : AreApart (workers_of (posts_of v)) (workers_of (posts_of w))) where
    abbrev M : Moment Op
    M = moment_of o m log us

    abbrev settled : List Entry
    settled = settled_in log

    abbrev logs : Agrees meaning o log M v → Agrees meaning o log M w → AreJoined v.log w.log log (longer_log v.log w.log) (shorter_log v.log w.log)
    logs x y = logs_joined v.log w.log log x.begins y.begins

    first_accounts : Agrees meaning o log M v → Agrees meaning o log M w → AllByRecursion (λ p. Account settled (v.mine ++ w.mine) p.worker) (posts_of v)
    first_accounts x y =
        all_zip (λ p. IsNew p.worker.name (workers_of (posts_of w))) (λ p. Account settled v.mine p.worker) (λ p. Account settled (v.mine ++ w.mine) p.worker)
        (λ p n z. account_behind settled p.worker v.mine w.mine (none_of p.worker.name (used_of w)
        (used_all (λ q. q.worker.name ≢ p.worker.name) w others (posts_all (λ u. u.name ≢ p.worker.name) (posts_of w) n)) w.mine y.items) z)
        (posts_of v) (posts_all (λ u. IsNew u.name (workers_of (posts_of w))) (posts_of v) apart) x.accounts

    second_accounts : Agrees meaning o log M v → Agrees meaning o log M w → AllByRecursion (λ p. Account settled (v.mine ++ w.mine) p.worker) (posts_of w)
    second_accounts x y =
        all_zip (λ p. IsNew p.worker.name (workers_of (posts_of v))) (λ p. Account settled w.mine p.worker) (λ p. Account settled (v.mine ++ w.mine) p.worker)
        (λ p n z. account_before settled p.worker v.mine w.mine (none_of p.worker.name (used_of v)
        (used_all (λ q. q.worker.name ≢ p.worker.name) v some (posts_all (λ u. u.name ≢ p.worker.name) (posts_of v) n)) v.mine x.items) z)
        (posts_of w) (posts_all (λ u. IsNew u.name (workers_of (posts_of v))) (posts_of w)
        (apart_turned (workers_of (posts_of v)) (workers_of (posts_of w)) apart)) y.accounts

    first_stand : Agrees meaning o log M v → Agrees meaning o log M w → (more : List Entry) →
        AllByRecursion (λ p. StandBy meaning (updates_seen v ++ more) (v.mine ++ w.mine) (v.placed ++ w.placed) p.worker) (posts_of v)
    first_stand x y more =
        all_zip (λ p. IsNew p.worker.name (workers_of (posts_of w))) (λ p. StandBy meaning (updates_seen v) v.mine v.placed p.worker)
        (λ p. StandBy meaning (updates_seen v ++ more) (v.mine ++ w.mine) (v.placed ++ w.placed) p.worker)
        (λ p n z. let none = none_of p.worker.name (used_of w)
        (used_all (λ q. q.worker.name ≢ p.worker.name) w others (posts_all (λ u. u.name ≢ p.worker.name) (posts_of w) n)) w.mine y.items in
        stand_behind meaning (updates_seen v ++ more) v.mine v.placed w.mine w.placed p.worker none (no_reads_of p.worker.name w.mine w.placed none y.reads)
        (stand_grown meaning (updates_seen v) v.mine v.placed more p.worker z))
        (posts_of v) (posts_all (λ u. IsNew u.name (workers_of (posts_of w))) (posts_of v) apart) x.stand

    second_stand : Agrees meaning o log M v → Agrees meaning o log M w → (more : List Entry) →
        AllByRecursion (λ p. StandBy meaning (updates_seen w ++ more) (v.mine ++ w.mine) (v.placed ++ w.placed) p.worker) (posts_of w)
    second_stand x y more =
        all_zip (λ p. IsNew p.worker.name (workers_of (posts_of v))) (λ p. StandBy meaning (updates_seen w) w.mine w.placed p.worker)
        (λ p. StandBy meaning (updates_seen w ++ more) (v.mine ++ w.mine) (v.placed ++ w.placed) p.worker)
        (λ p n z. let none = none_of p.worker.name (used_of v)
        (used_all (λ q. q.worker.name ≢ p.worker.name) v some (posts_all (λ u. u.name ≢ p.worker.name) (posts_of v) n)) v.mine x.items in
        stand_before meaning (updates_seen w ++ more) w.mine w.placed v.mine v.placed p.worker none (no_reads_of p.worker.name v.mine v.placed none x.reads)
        (stand_grown meaning (updates_seen w) w.mine w.placed more p.worker z))
        (posts_of w) (posts_all (λ u. IsNew u.name (workers_of (posts_of v))) (posts_of w)
        (apart_turned (workers_of (posts_of v)) (workers_of (posts_of w)) apart)) y.stand

    pub both_agrees : Agrees meaning o log M v → Agrees meaning o log M w → Agrees meaning o log M (both v w)
    both_agrees x y =
        let l = logs x y in
        let longer = longer_log v.log w.log in
        let f = seen_grows v.log longer l.first in
        let g = seen_grows w.log longer l.second in
        let posts = posts_both v w some in
        record {
          opened = x.opened;
          begins = l.begins;
          notes = l.notes;
          bare = λ none. absurd (no_names v.names some none);
          items = all_both (λ i. HasName (name_of i) (used_of (both v w))) v.mine w.mine
              (all_map (λ i. HasName (name_of i) (used_of v)) (λ i. HasName (name_of i) (used_of (both v w))) (λ i h. used_first (name_of i) v w h) v.mine
              x.items)
              (all_map (λ i. HasName (name_of i) (used_of w)) (λ i. HasName (name_of i) (used_of (both v w))) (λ i h. used_second (name_of i) v w others h)
              w.mine y.items);
          counted = all_both (λ n. HasName n (used_of (both v w))) v.events w.events
              (all_map (λ n. HasName n (used_of v)) (λ n. HasName n (used_of (both v w))) (λ n h. used_first n v w h) v.events x.counted)
              (all_map (λ n. HasName n (used_of w)) (λ n. HasName n (used_of (both v w))) (λ n h. used_second n v w others h) w.events y.counted);
          accounts = subst (AllByRecursion (λ p. Account settled (v.mine ++ w.mine) p.worker)) (sym posts)
              (all_both (λ p. Account settled (v.mine ++ w.mine) p.worker) (posts_of v) (posts_of w) (first_accounts x y) (second_accounts x y));
          licensed = subst (AllByRecursion (IsLicensed meaning M)) (sym posts)
              (all_both (IsLicensed meaning M) (posts_of v) (posts_of w) x.licensed y.licensed);
          queued = λ one. subst (AllByRecursion (HasNoneQueued meaning)) (sym posts)
              (all_both (HasNoneQueued meaning) (posts_of v) (posts_of w) (x.queued one) (y.queued one));
          stand = subst (AllByRecursion (λ p. StandBy meaning (settled_in longer) (v.mine ++ w.mine) (v.placed ++ w.placed) p.worker)) (sym posts)
              (all_both (λ p. StandBy meaning (settled_in longer) (v.mine ++ w.mine) (v.placed ++ w.placed) p.worker) (posts_of v) (posts_of w)
              (subst (λ es. AllByRecursion (λ p. StandBy meaning es (v.mine ++ w.mine) (v.placed ++ w.placed) p.worker) (posts_of v)) (sym f.1) (first_stand x y f.0))
              (subst (λ es. AllByRecursion (λ p. StandBy meaning es (v.mine ++ w.mine) (v.placed ++ w.placed) p.worker) (posts_of w)) (sym g.1) (second_stand x y g.0)));
          settled = subst (AllByRecursion (StandsFrom 0 (settled_in longer))) (sym (updates-append v.mine w.mine))
              (all_both (StandsFrom 0 (settled_in longer)) (updates_in v.mine) (updates_in w.mine)
              (all_map (StandsFrom 0 (updates_seen v)) (StandsFrom 0 (settled_in longer))
              (λ d h. subst (λ es. StandsFrom 0 es d) (sym f.1) (stands_later 0 (updates_seen v) f.0 d h)) (updates_in v.mine) x.settled)
              (all_map (StandsFrom 0 (updates_seen w)) (StandsFrom 0 (settled_in longer))
              (λ d h. subst (λ es. StandsFrom 0 es d) (sym g.1) (stands_later 0 (updates_seen w) g.0 d h)) (updates_in w.mine) y.settled));
          reads = map-append (λ r. r.entry) v.placed w.placed ∙ ap (λ es. es ++ map (λ r. r.entry) w.placed) x.reads ∙ ap (λ es. reads_in v.mine ++ es) y.reads
              ∙ sym (reads-append v.mine w.mine);
          right = all_both (IsRightAt (content_of o) (settled_in longer)) v.placed w.placed
              (all_map (IsRightAt (content_of o) (updates_seen v)) (IsRightAt (content_of o) (settled_in longer))
              (λ r h. subst (λ es. IsRightAt (content_of o) es r) (sym f.1) (right_later (content_of o) (updates_seen v) f.0 r h)) v.placed x.right)
              (all_map (IsRightAt (content_of o) (updates_seen w)) (IsRightAt (content_of o) (settled_in longer))
              (λ r h. subst (λ es. IsRightAt (content_of o) es r) (sym g.1) (right_later (content_of o) (updates_seen w) g.0 r h)) w.placed y.right);
          bounded = subst (AllByRecursion (IsWithinBounds meaning M)) (sym (answered-append v.mine w.mine))
              (all_both (IsWithinBounds meaning M) (answered v.mine) (answered w.mine) x.bounded y.bounded);
        }

  spent_agrees : (N : Moment Op) → Agrees meaning o log N spent
  spent_agrees N = record {
    opened = λ p e. absurd (cc);
    begins = (log, refl);
    notes = continues_same [];
    bare = λ none. refl;
    items = tt;
    counted = tt;
    accounts = tt;
    licensed = tt;
    queued = λ one. tt;
    stand = tt;
    settled = tt;
    reads = refl;
    right = tt;
    bounded = tt;
  }

  module _ (a b c : List (View S Op)) (v w : View S Op) (some : 0 < v.names) (others : 0 < w.names) where
    abbrev A : List (Worker Op)
    A = all_workers a

    abbrev B : List (Worker Op)
    B = all_workers b

    abbrev C : List (Worker Op)
    C = all_workers c

    abbrev V : List (Worker Op)
    V = workers_of (posts_of v)

    abbrev W : List (Worker Op)
    W = workers_of (posts_of w)

    three : (x y : View S Op) → all_workers (a ++ x ∷ (b ++ y ∷ c)) ≡ A ++ (workers_of (posts_of x) ++ (B ++ (workers_of (posts_of y) ++ C)))
    three x y = all_joined a (x ∷ (b ++ y ∷ c)) ∙ ap (λ us. A ++ (workers_of (posts_of x) ++ us)) (all_joined b (y ∷ c))

    both_workers : workers_of (posts_of (both v w)) ≡ V ++ W
    both_workers = ap workers_of (posts_both v w some) ∙ workers_joined (posts_of v) (posts_of w)

    -- the pass stands before the other
    pub joins_behind : Kept meaning o m log (a ++ v ∷ (b ++ w ∷ c)) → Kept meaning o m log (a ++ both v w ∷ (b ++ spent ∷ c))
    joins_behind k =
        let vs = a ++ v ∷ (b ++ w ∷ c) in
        let us = all_workers vs in
        let ws = all_workers (a ++ both v w ∷ (b ++ spent ∷ c)) in
        let N = moment_of o m log ws in
        let us_is : us ≡ (A ++ V) ++ (B ++ (W ++ C)) = three v w ∙ sym (append_assoc A V (B ++ (W ++ C))) in
        let ws_is : ws ≡ (A ++ V) ++ (W ++ (B ++ C)) = three (both v w) spent ∙ ap (λ z. A ++ (z ++ (B ++ C))) both_workers
        ∙ ap (λ z. A ++ z) (append_assoc V W (B ++ C)) ∙ sym (append_assoc A V (W ++ (B ++ C))) in
        let happens : Happens meaning None (moment_of o m log us) N = reordering.stretches_happen meaning laws o m log us ws (A ++ V) B W C us_is ws_is in
        let each : AllByRecursion (Agrees meaning o log N) vs = reordering.views_stay meaning laws o m log us ws k.holds happens vs (all_among us) k.each in
        let back : AllByRecursion (Agrees meaning o log N) (v ∷ (b ++ w ∷ c)) = all_right (Agrees meaning o log N) a (v ∷ (b ++ w ∷ c)) each in
        let last : AllByRecursion (Agrees meaning o log N) (w ∷ c) = all_right (Agrees meaning o log N) b (w ∷ c) back.1 in
        let one = different_split A (V ++ (B ++ (W ++ C))) (subst HaveDifferentNames (three v w) (laws.named (moment_of o m log us) k.holds).different) in
        let two = different_split V (B ++ (W ++ C)) one.1 in
        let apart : AreApart V W = all_map (λ u. IsNew u.name (B ++ (W ++ C))) (λ u. IsNew u.name W)
        (λ u h. all_left (λ z. z.name ≢ u.name) W C (all_right (λ z. z.name ≢ u.name) B (W ++ C) h)) V two.2 in
        let l = logs_joined v.log w.log log back.0.begins last.0.begins in
        record {
          holds = laws.keeps None (moment_of o m log us) N happens k.holds;
          each = all_both (Agrees meaning o log N) a (both v w ∷ (b ++ spent ∷ c)) (all_left (Agrees meaning o log N) a (v ∷ (b ++ w ∷ c)) each)
              (both_agrees ws v w some others apart back.0 last.0, all_put (Agrees meaning o log N) b c w spent (spent_agrees N) back.1);
          longest = whole_two log a b c v w (both v w) spent (λ e. inl (l.whole_first e)) (λ e. inl (l.whole_second e)) k.longest;
        }

    -- the other stands before the pass
    pub joins_before : Kept meaning o m log (a ++ w ∷ (b ++ v ∷ c)) → Kept meaning o m log (a ++ spent ∷ (b ++ both v w ∷ c))
    joins_before k =
        let vs = a ++ w ∷ (b ++ v ∷ c) in
        let us = all_workers vs in
        let ws = all_workers (a ++ spent ∷ (b ++ both v w ∷ c)) in
        let N = moment_of o m log ws in
        let us_is : us ≡ A ++ (W ++ ((B ++ V) ++ C)) = three w v ∙ ap (λ z. A ++ (W ++ z)) (sym (append_assoc B V C)) in
        let ws_is : ws ≡ A ++ ((B ++ V) ++ (W ++ C)) = three spent (both v w) ∙ ap (λ z. A ++ (B ++ (z ++ C))) both_workers
        ∙ ap (λ z. A ++ (B ++ z)) (append_assoc V W C) ∙ ap (λ z. A ++ z) (sym (append_assoc B V (W ++ C))) in
        let happens : Happens meaning None (moment_of o m log us) N = reordering.stretches_happen meaning laws o m log us ws A W (B ++ V) C us_is ws_is in
        let each : AllByRecursion (Agrees meaning o log N) vs = reordering.views_stay meaning laws o m log us ws k.holds happens vs (all_among us) k.each in
        let back : AllByRecursion (Agrees meaning o log N) (w ∷ (b ++ v ∷ c)) = all_right (Agrees meaning o log N) a (w ∷ (b ++ v ∷ c)) each in
        let last : AllByRecursion (Agrees meaning o log N) (v ∷ c) = all_right (Agrees meaning o log N) b (v ∷ c) back.1 in
        let one = different_split A (W ++ (B ++ (V ++ C))) (subst HaveDifferentNames (three w v) (laws.named (moment_of o m log us) k.holds).different) in
        let two = different_split W (B ++ (V ++ C)) one.1 in
        let turned : AreApart W V = all_map (λ u. IsNew u.name (B ++ (V ++ C))) (λ u. IsNew u.name V)
        (λ u h. all_left (λ z. z.name ≢ u.name) V C (all_right (λ z. z.name ≢ u.name) B (V ++ C) h)) W two.2 in
        let l = logs_joined v.log w.log log last.0.begins back.0.begins in
        record {
          holds = laws.keeps None (moment_of o m log us) N happens k.holds;
          each = all_both (Agrees meaning o log N) a (spent ∷ (b ++ both v w ∷ c)) (all_left (Agrees meaning o log N) a (w ∷ (b ++ v ∷ c)) each) (
            spent_agrees N,
            all_put (Agrees meaning o log N) b c v (both v w) (both_agrees ws v w some others (apart_turned W V turned) last.0 back.0)
                back.1,
          );
          longest = whole_two log a b c w v spent (both v w) (λ e. inr (l.whole_second e)) (λ e. inr (l.whole_first e)) k.longest;
        }

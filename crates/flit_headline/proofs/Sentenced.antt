-- The sentences of the headline, from the one record of all that a run promises.
use Rattle.std.proofs.Common.{◌≡◌, ◌⊎◌, inl, inr, ℕ, ◌+◌, ◌<◌, ◌≤◌, Bool, true, List, [], ◌∷◌, filter, take, refl, sym, ◌∙◌, ap, subst, Some, slice_get}
use Rattle.std.proofs.lemmas.Bool.{cases_lt}
use Rattle.std.specs.List.{AllByRecursion}
use Rattle.std.specs.List.{Contains}
use Rattle.std.proofs.lemmas.List.Elements.{Contains-append_right}
use Rattle.flit_model.specs.Maps.{IsLegal, map_after_all}
use Rattle.flit_model.specs.CrashImages.{crash_image}
use Rattle.flit_model.specs.Histories.{IsRightAt}
use Rattle.flit_model.specs.Recovery.{layout_of}
use Rattle.flit_model.specs.declared.calls.Call.{Call}
use Rattle.flit_model.specs.declared.calls.Entry.{Entry}
use Rattle.flit_model.specs.declared.calls.Item.TheVariants.{Call as Call_item}
use Rattle.flit_model.specs.declared.calls.Outcome.TheVariants.{Replied}
use Rattle.flit_model.specs.declared.calls.Reply.{Reply}
use Rattle.flit_model.proofs.Membership.{contains_first, contains_none, contains_cases, contains-filter}
use Rattle.flit_structure.specs.Moments.{update_of}
use Rattle.flit_structure.specs.Meanings.{Meaning}
use Rattle.flit_structure.specs.Lawful.{HasMap}
use Rattle.flit_sched.specs.Runs.{Part, Run, IsPart}
use Rattle.flit_sched.specs.Views.{history_with}
use Rattle.flit_histories.specs.Following.{Given}
use Rattle.flit_histories.specs.Calls.{calls_in, IsCallAt, IsCallIn, is_of, entries_of, IsOfCall, IsUnderWayAt}
use Rattle.flit_histories.specs.Orders.{IsOver, IsIn}
use Rattle.flit_histories.specs.Promises.{KeepsPromises}
use Rattle.flit_histories.proofs.HistoryOrders.{all_in}
use Rattle.flit_histories.proofs.LedParts.{same_part}
use Rattle.flit_histories.proofs.OneEach.{is_of_it}
use Rattle.flit_headline.specs.Sentences.{IsUnfinishedUpdate, KeepsHeadline}

in_left : {X : Type 0} (p : X → Bool) (xs : List X) (x : X) → IsIn xs x → p x ≡ true → Contains (filter p xs) x
in_left p xs x h is =
    contains-filter p xs x (subst (λ ys. Contains ys x) (sym h.2) (Contains-append_right h.0 (x ∷ h.1) x (contains_first x h.1))) is

only_one : {X : Type 0} (y x : X) → Contains (y ∷ []) x → y ≡ x
only_one y x h = by_place (contains_cases y [] x h)
  where
    by_place : (y ≡ x) ⊎ Contains [] x → y ≡ x
    by_place (inl e) = e
    by_place (inr later) = absurd (contains_none x later)

module _ {Op : Type 0} (meaning : Meaning Op) (first : Run Op) (turns : List Given) (r : Run Op) (picks : ℕ → Bool)
    (k : KeepsPromises meaning first turns r picks) where
  abbrev history : List Entry
  history = history_with r picks

  once : (worker : ℕ) (p : Part Op) (i : ℕ) (call : Call) (number : ℕ) (reply : Reply) → IsCallIn r worker p i call number →
      slice_get p.outcomes i ≡ Some (Some (Replied reply)) → filter (is_of worker number) history ≡ entries_of worker number call reply
  once worker p i call number reply c is = by_place (cases_lt i p.over)
    where
      by_place : (i < p.over) ⊎ (p.over ≤ i) → filter (is_of worker number) history ≡ entries_of worker number call reply
      by_place (inl less) =
          let a = k.over worker p i call number c less in
          let both = sym a.outcome ∙ is in
          let same : a.reply ≡ reply = cc in
          a.entries ∙ ap (entries_of worker number call) same
      by_place (inr le) = absurd (let both = sym (k.left worker p i call number c le).outcome ∙ is in cc)

  module _ (e : Entry) (h : IsIn history e) where
    is_left : Contains (filter (is_of e.worker e.number) history) e
    is_left = in_left (is_of e.worker e.number) history e h (is_of_it e.worker e.number e refl refl)

    by_left : (c : IsOfCall r e) → (filter (is_of e.worker e.number) history ≡ [])
        ⊎ ((filter (is_of e.worker e.number) history ≡ update_of e.worker e.number e.call ∷ []) × IsUnderWayAt c.part c.item e.call) → IsUnfinishedUpdate r e
    by_left c (inl none) = absurd (contains_none e (subst (λ xs. Contains xs e) none is_left))
    by_left c (inr one) = record {
      part = c.part;
      item = c.item;
      is = c.is;
      at = one.1;
      update = sym (only_one (update_of e.worker e.number e.call) e (subst (λ xs. Contains xs e) one.0 is_left));
    }

    by_place : (c : IsOfCall r e) → (c.item < c.part.over) ⊎ (c.part.over ≤ c.item) → ¬ (IsOver r e.worker e.number) → IsUnfinishedUpdate r e
    by_place c (inl less) yet = absurd (yet (record { part = c.part; item = c.item; call = e.call; is = c.is; over = less }))
    by_place c (inr le) yet = by_left c (k.left e.worker c.part c.item e.call e.number c.is le).entries

    unfinished : ¬ (IsOver r e.worker e.number) → IsUnfinishedUpdate r e
    unfinished yet = let c = all_in (IsOfCall r) history e k.calls h in by_place c (cases_lt c.item c.part.over) yet

  same_call : (d e : Entry) (p q : Part Op) (i j : ℕ) → p ≡ q → i ≡ j → IsCallAt p.items i d.call d.number → IsCallAt q.items j e.call e.number →
      (d.call ≡ e.call) × (d.number ≡ e.number)
  same_call d e p q i j same at h g =
      let both : Some (Call_item d.call) ≡ Some (Call_item e.call) =
      sym h.is ∙ ap (λ n. slice_get p.items n) at ∙ ap (λ x. slice_get x.items j) same ∙ g.is in
      (cc, h.counts ∙ ap (λ n. calls_in (take (n + 1) p.items)) at ∙ ap (λ x. calls_in (take (j + 1) x.items)) same ∙ sym g.counts)

  one_each : (d e : Entry) → d.worker ≡ e.worker → IsUnfinishedUpdate r d → IsUnfinishedUpdate r e → d ≡ e
  one_each d e same x y =
      let parts = same_part r d.worker x.is.before x.is.behind y.is.before y.is.behind x.part y.part x.is.is
      (subst (λ w. IsPart r w y.is.before y.part y.is.behind) (sym same) y.is.is) in
      let call = same_call d e x.part y.part x.item y.item parts (x.at.next ∙ ap (λ p. p.over) parts ∙ sym y.at.next) x.is.call_at y.is.call_at in
      x.update ∙ ap (λ w. update_of w d.number d.call) same ∙ ap (λ n. update_of e.worker n d.call) call.1 ∙ ap (update_of e.worker e.number) call.0
      ∙ sym y.update

  pub sentenced : KeepsHeadline meaning first turns r picks
  sentenced = record {
    legal = subst (λ m. IsLegal m history) k.content k.legal;
    once = once;
    order = record {
      own = k.callers;
      seen = k.order;
      reads = subst (λ m. AllByRecursion (IsRightAt m r.progress.settled) r.placed) k.content k.reads;
    };
    map = record {
      words = subst (λ m. HasMap meaning.layout (crash_image picks r.state) (map_after_all m history)) k.content k.image;
      image = λ i shape words. (
          let f = k.found i shape words in (f.0, subst (λ m. HasMap (layout_of i) i.words.items (map_after_all m history)) k.content f.1)
          );
    };
    unfinished = record {
      update = unfinished;
      one = λ d e hd he same yd ye. one_each d e same (unfinished d hd yd) (unfinished e he ye);
    };
  }

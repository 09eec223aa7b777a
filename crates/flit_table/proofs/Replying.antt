-- What comes of a call that has its reply, and of an evict that is over.
use Rattle.std.proofs.Common.{◌≡◌, ℕ, ◌+◌, ◌<◌, ◌≤◌, Bool, true, false, cond, List, [], ◌∷◌, ◌++◌, filter, map, refl, sym, ◌∙◌, ap, subst, arith, Option, append-nil}
use Rattle.std.proofs.lemmas.Bool.{false≢true}
use Rattle.std.specs.List.{AllByRecursion}
use Rattle.flit_model.specs.Maps.{Map}
use Rattle.flit_model.specs.States.{State}
use Rattle.flit_model.specs.Histories.{is_update_by, is_read_by, is_update, is_yes, IsRightAt}
use Rattle.flit_model.specs.Settling.{Progress}
use Rattle.flit_model.specs.declared.calls.Call.{Call}
use Rattle.flit_model.specs.declared.calls.Call.TheVariants.{Insert, Remove, Contains, Get}
use Rattle.flit_model.specs.declared.calls.Entry.{Entry}
use Rattle.flit_model.specs.declared.calls.Placed.{Placed}
use Rattle.flit_model.specs.declared.calls.Reply.{Reply}
use Rattle.flit_model.specs.declared.calls.Reply.TheVariants.{Yes, No, Found, Full, Worn}
use Rattle.flit_pv.specs.declared.hands.Hand.{Hand}
use Rattle.flit_structure.specs.Moments.{idle, busy, update_of, made, waiting_updates}
use Rattle.flit_structure.specs.Lawful.{StandsFrom, IsPlacedFrom, IsReplied}
use Rattle.flit_structure.proofs.Names.{all_left, all_both, all_at, all_map}
use Rattle.flit_words.specs.declared.layouts.Layout.{Layout}
use Rattle.flit_table.specs.declared.views.Made.{Made}
use Rattle.flit_table.specs.declared.views.Made.TheVariants.{Answered}
use Rattle.flit_table.specs.Views.{answered, updates_in, reads_in, entries_of}
use Rattle.flit_table.specs.Rule.{Account}
use Rattle.flit_table.specs.Orders.{IsOneMore}
use Rattle.flit_table.proofs.Accounts.{entries-append, entries_own, entry_stands, answered-append, updates-append}

yes_of : (reply : Reply) → is_yes reply ≡ true → reply ≡ Yes
yes_of Yes h = refl
yes_of No h = absurd (false≢true h)
yes_of (Found v) h = absurd (false≢true h)
yes_of (Full t) h = absurd (false≢true h)
yes_of (Worn w v) h = absurd (false≢true h)

update_yes : (call : Call) (reply : Reply) → is_update_by call reply ≡ true → reply ≡ Yes
update_yes (Insert k v) reply h = yes_of reply h
update_yes (Remove k) reply h = yes_of reply h
update_yes (Contains k) reply h = absurd (false≢true h)
update_yes (Get k) reply h = absurd (false≢true h)

-- an entry that stands among all stands among those of its name
stands_own : (name : ℕ) (es : List Entry) (x : Entry) (n : ℕ) → x.worker ≡ name → StandsFrom n es x → StandsFrom 0 (entries_of name es) x
stands_own name es x n own h =
    let one : entries_of name (x ∷ h.1) ≡ x ∷ entries_of name h.1 = entries-append name (x ∷ []) h.1
    ∙ ap (λ zs. zs ++ entries_of name h.1) (entries_own name x own) in (
      entries_of name h.0,
      entries_of name h.1,
      ap (entries_of name) h.2 ∙ entries-append name h.0 (x ∷ h.1)
          ∙ ap (λ zs. entries_of name h.0 ++ zs) one,
      omega arith,
    )

module _ {Op : Type 0} (settled : List Entry) (mine : List Made) (name number : ℕ) (op : Op) (call : Call) (begun : Option ℕ) (hand : Hand) where
  abbrev entry : Reply → Entry
  entry reply = record { worker = name; number = number; call = call; reply = reply }

  abbrev item : Reply → List Made
  item reply = Answered (entry reply) ∷ []

  below_still : (reply : Reply) → AllByRecursion (λ e. e.worker ≡ name → e.number < number) (answered mine) →
      AllByRecursion (λ e. e.worker ≡ name → e.number < number + 1) (answered (mine ++ item reply))
  below_still reply h =
      subst (AllByRecursion (λ e. e.worker ≡ name → e.number < number + 1)) (sym (answered-append mine (item reply)))
      (all_both (λ e. e.worker ≡ name → e.number < number + 1) (answered mine) (entry reply ∷ [])
      (all_map (λ e. e.worker ≡ name → e.number < number) (λ e. e.worker ≡ name → e.number < number + 1) (λ e k q. further e.number (k q)) (answered mine) h)
      ((λ q. here number), tt))
    where
      further : (n : ℕ) → n < number → n < number + 1
      further n k = omega arith

      here : (n : ℕ) → n < n + 1
      here n = omega arith

  -- an update of a finished call isn't that of this call
  not_before : AllByRecursion (λ e. e.worker ≡ name → e.number < number) (answered mine) →
      StandsFrom 0 (entries_of name (updates_in mine)) (update_of name number call) → ⊥
  not_before h st =
      let k : StandsFrom 0 (updates_in mine) (update_of name number call) = entry_stands name (updates_in mine) (update_of name number call) st.0 st.1 st.2 in
      let low : number < number = all_at (λ e. e.worker ≡ name → e.number < number) k.0 k.1 (update_of name number call)
      (subst (AllByRecursion (λ e. e.worker ≡ name → e.number < number)) k.2 (filtered (answered mine) h)) refl in
      never number low
    where
      never : (n : ℕ) → n < n → ⊥
      never n l = omega arith

      filtered : (es : List Entry) → AllByRecursion (λ e. e.worker ≡ name → e.number < number) es →
          AllByRecursion (λ e. e.worker ≡ name → e.number < number) (filter is_update es)
      filtered [] q = tt
      filtered (e ∷ es) q = by_test (is_update e) (filtered es q.1)
        where
          by_test : (b : Bool) → AllByRecursion (λ d. d.worker ≡ name → d.number < number) (filter is_update es) →
              AllByRecursion (λ d. d.worker ≡ name → d.number < number) (cond b (e ∷ filter is_update es) (filter is_update es))
          by_test true r = (q.0, r)
          by_test false r = r

  -- the update of a call with Yes joins those of its name
  update_account : (n : ℕ) → StandsFrom n settled (update_of name number call) → is_update (entry Yes) ≡ true →
      Account settled mine (busy name number op call begun) → Account settled (mine ++ item Yes) (idle {Op = Op} name number hand)
  update_account n st yes_is a = by_more a.more a.is a.one
    where
      made_now : entries_of name (updates_in (mine ++ item Yes)) ≡ entries_of name (updates_in mine) ++ entry Yes ∷ []
      made_now =
          ap (entries_of name) (updates-append mine (item Yes) ∙ ap (λ b. updates_in mine ++ cond b (entry Yes ∷ []) []) yes_is)
          ∙ entries-append name (updates_in mine) (entry Yes ∷ []) ∙ ap (λ zs. entries_of name (updates_in mine) ++ zs) (entries_own name (entry Yes) refl)

      by_more : (more : List Entry) → entries_of name settled ≡ entries_of name (updates_in mine) ++ more → IsOneMore (busy name number op call begun) more →
          Account settled (mine ++ item Yes) (idle {Op = Op} name number hand)
      by_more [] e one = absurd (not_before a.below (subst (λ zs. StandsFrom 0 zs (update_of name number call))
          (e ∙ append-nil (entries_of name (updates_in mine))) (stands_own name settled (update_of name number call) n refl st)))
      by_more (d ∷ []) e one = record {
        more = [];
        is = e ∙ ap (λ z. entries_of name (updates_in mine) ++ z ∷ []) one ∙ sym made_now ∙ sym (append-nil (entries_of name (updates_in (mine ++ item Yes))));
        one = tt;
        below = below_still Yes a.below;
      }
      by_more (d ∷ (f ∷ fs)) e one = absurd one

  -- a call that made no update has none
  other_account : (p : Progress) (reply : Reply) → p.settled ≡ settled → AllByRecursion (λ e. e.worker ≡ name → e.number ≡ number → ⊥) (made p) →
      is_update (entry reply) ≡ false →
      Account settled mine (busy name number op call begun) → Account settled (mine ++ item reply) (idle {Op = Op} name number hand)
  other_account p reply same none no_is a = by_more a.more a.is a.one
    where
      made_now : updates_in (mine ++ item reply) ≡ updates_in mine
      made_now = updates-append mine (item reply) ∙ ap (λ b. updates_in mine ++ cond b (entry reply ∷ []) []) no_is ∙ append-nil (updates_in mine)

      never : (d : Entry) → entries_of name settled ≡ entries_of name (updates_in mine) ++ d ∷ [] → d ≡ update_of name number call → ⊥
      never d e is =
          let k : StandsFrom 0 settled d = entry_stands name settled d (entries_of name (updates_in mine)) [] e in
          let free : AllByRecursion (λ e. e.worker ≡ name → e.number ≡ number → ⊥) settled =
          subst (AllByRecursion (λ e. e.worker ≡ name → e.number ≡ number → ⊥)) same
          (all_left (λ e. e.worker ≡ name → e.number ≡ number → ⊥) p.settled (waiting_updates p) none) in
          all_at (λ e. e.worker ≡ name → e.number ≡ number → ⊥) k.0 k.1 d (subst (AllByRecursion (λ e. e.worker ≡ name → e.number ≡ number → ⊥)) k.2 free)
          (ap (λ z. z.worker) is) (ap (λ z. z.number) is)

      by_more : (more : List Entry) → entries_of name settled ≡ entries_of name (updates_in mine) ++ more → IsOneMore (busy name number op call begun) more →
          Account settled (mine ++ item reply) (idle {Op = Op} name number hand)
      by_more [] e one = record { more = []; is = e ∙ ap (λ zs. entries_of name zs ++ []) (sym made_now); one = tt; below = below_still reply a.below }
      by_more (d ∷ []) e one = absurd (never d e one)
      by_more (d ∷ (f ∷ fs)) e one = absurd one

  module _ (l : Layout) (room : ℕ) (before : Map) (m : State) (p : Progress) (from : ℕ) (reply : Reply) (same : p.settled ≡ settled)
      (r : IsReplied l room before m p name number call from reply) where
    pub replied_account : Account settled mine (busy name number op call begun) → Account settled (mine ++ item reply) (idle {Op = Op} name number hand)
    replied_account a = by_test (is_update_by call reply) refl
      where
        by_test : (b : Bool) → is_update_by call reply ≡ b → Account settled (mine ++ item reply) (idle {Op = Op} name number hand)
        by_test true is =
            let y : reply ≡ Yes = update_yes call reply is in
            subst (λ z. Account settled (mine ++ item z) (idle {Op = Op} name number hand)) (sym y)
            (update_account from (subst (λ es. StandsFrom from es (update_of name number call)) same (r.update is))
            (subst (λ z. is_update_by call z ≡ true) y is) a)
        by_test false is = other_account p reply same (r.none is) is a

    pub replied_settled : AllByRecursion (StandsFrom 0 settled) (updates_in (item reply))
    replied_settled = by_test (is_update_by call reply) refl
      where
        from_none : (n : ℕ) (x : Entry) → StandsFrom n settled x → StandsFrom 0 settled x
        from_none n x h = (h.0, h.1, h.2, omega arith)

        by_test : (b : Bool) → is_update_by call reply ≡ b → AllByRecursion (StandsFrom 0 settled) (cond b (entry reply ∷ []) [])
        by_test true is =
            let y : reply ≡ Yes = update_yes call reply is in (
              from_none from (entry reply) (subst (λ z. StandsFrom from settled (entry z)) (sym y)
                  (subst (λ es. StandsFrom from es (update_of name number call)) same (r.update is))),
              tt,
            )
        by_test false is = tt

    -- the place of a completed read
    pub record ReadsPlaced : Type 0 where
      pub reads : List Placed
      pub are : map (λ z. z.entry) reads ≡ reads_in (item reply)
      pub right : AllByRecursion (IsRightAt before settled) reads
      pub late : AllByRecursion (λ z. from ≤ z.position) reads

    pub replied_reads : ReadsPlaced
    replied_reads = by_test (is_read_by call reply) refl
      where
        with_test : (b : Bool) → is_read_by call reply ≡ b → reads_in (item reply) ≡ cond b (entry reply ∷ []) []
        with_test b is = ap (λ c. cond c (entry reply ∷ []) []) is

        by_test : (b : Bool) → is_read_by call reply ≡ b → ReadsPlaced
        by_test true is =
            let h : IsPlacedFrom from before p.settled (entry reply) = r.read is in
            record {
              reads = record { position = h.0; entry = entry reply } ∷ [];
              are = sym (with_test true is);
              right = (subst (λ es. IsRightAt before es (record { position = h.0; entry = entry reply })) same h.2, tt);
              late = (h.1, tt);
            }
        by_test false is = record { reads = []; are = sym (with_test false is); right = tt; late = tt }

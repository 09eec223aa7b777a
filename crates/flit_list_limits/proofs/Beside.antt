-- What may follow a call hangs on words that everybody may reach, and on no others.
use Rattle.std.proofs.Common.{◌≡◌, ◌⊎◌, inl, inr, ℕ, ◌+◌, ◌*◌, ◌-◌, ◌^◌, ◌==◌, ◌&&◌, Bool, false, List, refl, sym, ◌∙◌, ap, subst, slice_index, if◌then◌else◌}
use Rattle.flit_words.specs.declared.layouts.Layout.{Layout}
use Rattle.flit_words.specs.Layouts.{row_word_of}
use Rattle.flit_words.specs.Words.{bare_of, value_of}
use Rattle.flit_model.specs.declared.calls.Reply.{Reply}
use Rattle.flit_place.specs.Tags.{Place, dressed}
use Rattle.flit_pv.specs.declared.exchanges.Exchanging.{Exchanging}
use Rattle.flit_pv.specs.declared.exchanges.Exchanging.TheVariants.{Ready, Tries, TriesBare, WritesBack, Withdraws, Lowers, Ended}
use Rattle.flit_pv.specs.declared.exchanges.Exchanged.TheVariants.{Won, Lost, Worn}
use Rattle.flit_pv.specs.Confirms.{HeldConfirm}
use Rattle.flit_pv.specs.Exchanges.{HeldExchange}
use Rattle.flit_crew.specs.Heaps.{IsOpen}
use Rattle.flit_crew.specs.Machines.{Part, ToRead, HasRead, ToWin, HasWon, HasWritten, HasLost, Other, exchange_part}
use Rattle.flit_crew.specs.Crews.{Who}
use Rattle.flit_crew_bounds.specs.Winning.{would_win_at, would_win, wins_at, wins_now}
use Rattle.flit_list_steps.specs.declared.operations.LinkWord.{LinkWord as PathWord}
use Rattle.flit_list_steps.specs.declared.operations.Path.{Path}
use Rattle.flit_list_steps.specs.declared.operations.Goal.{Goal as Aim}
use Rattle.flit_list_steps.specs.declared.operations.Goal.TheVariants.{Help as To_help, Found as To_found, Absent as To_absent}
use Rattle.flit_list_steps.specs.declared.operations.Which.{Which}
use Rattle.flit_list_steps.specs.declared.operations.Which.TheVariants.{Back as The_back, Pred as The_pred, Next as The_next}
use Rattle.flit_list_steps.specs.Operations.{At, Head, Next, Key, Confirming, Help, Row, Words, RowValue, Link, Mark, Tidy, Value, Ends, Rests, HeldOp}
use Rattle.flit_list_steps.specs.Steps.{row_at, path_confirmed}
use Rattle.flit_list_heap.specs.Links.{Next as Next_word, place_of}
use Rattle.flit_list_heap.specs.Keeping.{ListHeap, Kept, IsLinked, IsLinkAt}
use Rattle.flit_list_heap.proofs.Places.{link_open, key_open}
use Rattle.flit_list_laws.specs.Walks.{Loaded, Walk}
use Rattle.flit_list_laws.specs.Knowing.{row_after, Stands, HasNext, HasGoal, HelpAt, Helped, LinkAt, MarkAt, LeadsOn}
use Rattle.flit_list_laws.specs.ListCrew.{Is, Follows, FollowsTo, FollowsFor, KnowsAt, Knows, goal_with}
use Rattle.flit_list_limits.specs.ListLimits.{keys_from, next_cost, path_cost, rest_by, rest_at, unless, still, confirming_again, help_again, again_at, list_behind}
use Rattle.flit_list_limits.proofs.Resuming.{row_is}

module _ (l : Layout) (p : Place) (free : List ℕ) (h : ListHeap) (me : Who) (kept : Kept l free h) (ws vs : List ℕ)
    (same : (v : ℕ) → IsOpen l free h v → slice_index vs v ≡ slice_index ws v) where
  -- ---- words and keys

  still_same : (x : PathWord) → IsOpen l free h x.word → still p vs x ≡ still p ws x
  still_same x o = ap (λ y. would_win_at (p.slot x.word) y x.raw) (same x.word o)

  keys_same : (row : ℕ) → (row ≡ 0) ⊎ IsLinked l h row → keys_from l vs row ≡ keys_from l ws row
  keys_same row (inl z) = subst (λ r. keys_from l vs r ≡ keys_from l ws r) (sym z) refl
  keys_same row (inr k) = ap (λ y. if row == 0 then 0 else 2 ^ 32 - value_of y) (same (row_word_of l row 0) (key_open l free h kept row k))

  path_open : (x : PathWord) (q : Loaded) → Is l x q → IsLinkAt l h q.word → IsOpen l free h x.word
  path_open x q is link = subst (IsOpen l free h) (sym is.word) (link_open l free h kept q.word link)

  wins_same : (m : HeldExchange) (at : Exchanging) → (exchange_part at ≡ ToWin → IsOpen l free h m.word) → wins_at p vs at m ≡ wins_at p ws at m
  wins_same m Ready o = ap (λ y. would_win_at (p.slot m.word) y m.from) (same m.word (o refl))
  wins_same m (Tries slot) o = ap (λ y. y == m.from) (same m.word (o refl))
  wins_same m TriesBare o = ap (λ y. y == bare_of m.from) (same m.word (o refl))
  wins_same m WritesBack o = refl
  wins_same m Withdraws o = refl
  wins_same m (Lowers slot found) o = refl
  wins_same m (Ended how) o = refl

  module _ (reply : Reply) (path : Path) (w : Walk) (n : Loaded) where
    -- ---- what a search stands on

    leads : Stands l h me w → LeadsOn l h me w
    leads s = elim s.spot.saw.form.leads [ inl z ↦ inl z | inr is ↦ inr is.linked ]

    at_row : Follows l path w → LeadsOn l h me w → (row_at path ≡ 0) ⊎ IsLinked l h (row_at path)
    at_row follows known = subst (λ r. (r ≡ 0) ⊎ IsLinked l h r) (sym (row_is l path w follows)) known

    pred_open : Follows l path w → Stands l h me w → IsOpen l free h path.pred.word
    pred_open follows s = path_open path.pred w.link follows.link s.spot.saw.link

    next_open : (marked : Bool) → FollowsTo l path w n → HasNext l h me w n marked → IsOpen l free h path.next.word
    next_open marked follows has = path_open path.next n follows.next (subst (IsLinkAt l h) (sym has.word) has.next.saw.link)

    -- ---- the rest of this search

    keys_of : Follows l path w → LeadsOn l h me w → keys_from l vs (row_at path) ≡ keys_from l ws (row_at path)
    keys_of follows known = keys_same (row_at path) (at_row follows known)

    leads_at : (m : HeldExchange) (x : Exchanging) → HelpAt l h me w n m (exchange_part x) → LeadsOn l h me w
    leads_at m Ready f = leads f.sure.stands
    leads_at m (Tries slot) f = leads f.sure.stands
    leads_at m TriesBare f = leads f.sure.stands
    leads_at m WritesBack f = inr f.linked
    leads_at m Withdraws f = inr f.linked
    leads_at m (Lowers slot found) f = f
    leads_at m (Ended Won) f = inr f.linked
    leads_at m (Ended (Lost found)) f = f
    leads_at m (Ended (Worn word version)) f = leads f.sure.stands

    confirming_rests : (goal : Aim) (which : Which) (m : HeldConfirm) → keys_from l vs (row_at path) ≡ keys_from l ws (row_at path) →
        rest_by (2 ^ 32) (keys_from l vs) path (Confirming goal which m) ≡ rest_by (2 ^ 32) (keys_from l ws) path (Confirming goal which m)
    confirming_rests To_help The_back m e = ap (λ k. 7 * k + next_cost (path_confirmed path The_back) + 10 + 2) e
    confirming_rests To_help The_pred m e = ap (λ k. 7 * k + next_cost (path_confirmed path The_pred) + 10 + 2) e
    confirming_rests To_help The_next m e = ap (λ k. 7 * k + next_cost (path_confirmed path The_next) + 10 + 2) e
    confirming_rests To_found which m e = refl
    confirming_rests To_absent which m e = refl

    confirming_keys : (goal : Aim) → FollowsFor l goal path w n → Stands l h me w → keys_from l vs (row_at path) ≡ keys_from l ws (row_at path)
    confirming_keys To_help follows s = keys_of follows.walk (leads s)
    confirming_keys To_found follows s = keys_of follows.walk (leads s)
    confirming_keys To_absent follows s = keys_of follows (leads s)

    rest_same : (at : At) → KnowsAt l h me reply path w n at → rest_by (2 ^ 32) (keys_from l vs) path at ≡ rest_by (2 ^ 32) (keys_from l ws) path at
    rest_same (Head m) f = refl
    rest_same (Next m) f = ap (λ k. 7 * k + path_cost path + 14) (keys_of f.0 (leads f.1.stands))
    rest_same (Key m) f = ap (λ k. 7 * k + next_cost path + 11) (keys_of f.0.walk (leads f.1.stands))
    rest_same (Confirming goal which m) f = confirming_rests goal which m (confirming_keys goal f.follows f.stands)
    rest_same (Help m) f = ap (λ k. 7 * k + 8) (keys_of f.0.walk (leads_at m m.at f.2))
    rest_same (Row m) f = refl
    rest_same (Words m) f = refl
    rest_same (RowValue m) f = refl
    rest_same (Link m) f = refl
    rest_same (Mark m) f = refl
    rest_same (Tidy m) f = refl
    rest_same (Value m) f = refl
    rest_same (Ends m) f = refl
    rest_same (Rests hand) f = absurd f

    -- ---- one more search, or none

    pred_same : Follows l path w → Stands l h me w → unless (still p vs path.pred) ≡ unless (still p ws path.pred)
    pred_same follows s = ap unless (still_same path.pred (pred_open follows s))

    next_same : (marked : Bool) → FollowsTo l path w n → HasNext l h me w n marked → still p vs path.next ≡ still p ws path.next
    next_same marked follows has = still_same path.next (next_open marked follows has)

    confirming_same : (goal : Aim) → FollowsFor l goal path w n → Stands l h me w → HasGoal l h me w (goal_with goal n) →
        confirming_again p vs path goal ≡ confirming_again p ws path goal
    confirming_same To_help follows s known = pred_same follows.walk s
    confirming_same To_found follows s known = ap unless (next_same false follows known.0)
    confirming_same To_absent follows s known = pred_same follows s

    help_open : (m : HeldExchange) → HelpAt l h me w n m ToWin → IsOpen l free h m.word
    help_open m f = subst (IsOpen l free h) (sym f.aim.word) (link_open l free h kept w.link.word f.sure.stands.spot.saw.link)

    helped_same : (m : HeldExchange) → Helped l h me w m →
        unless (would_win p vs m.word (dressed p.counted m.to)) ≡ unless (would_win p ws m.word (dressed p.counted m.to))
    helped_same m f = ap (λ y. unless (would_win_at (p.slot m.word) y (dressed p.counted m.to)))
        (same m.word (subst (IsOpen l free h) (sym f.word) (link_open l free h kept w.link.word f.saw.link)))

    help_same : (m : HeldExchange) (part : Part) → HelpAt l h me w n m part → wins_now p vs m ≡ wins_now p ws m →
        help_again p vs m part ≡ help_again p ws m part
    help_same m (ToRead word) f e = refl
    help_same m (HasRead word raw) f e = refl
    help_same m ToWin f e = ap unless e
    help_same m HasWon f e = helped_same m f
    help_same m HasWritten f e = helped_same m f
    help_same m (HasLost found) f e = refl
    help_same m Other f e = refl

    link_open_at : (m : HeldExchange) → LinkAt l h me w m ToWin → IsOpen l free h m.word
    link_open_at m f = subst (IsOpen l free h) (sym f.aim.word) (link_open l free h kept w.link.word f.sure.stands.spot.saw.link)

    mark_open_at : (m : HeldExchange) → MarkAt l h me w n m ToWin → IsOpen l free h m.word
    mark_open_at m f = subst (IsOpen l free h) (sym f.aim.word) (link_open l free h kept (Next_word (row_after w)) f.next.next.saw.link)

    again_same : (at : At) → KnowsAt l h me reply path w n at → again_at p vs path at ≡ again_at p ws path at
    again_same (Head m) f = refl
    again_same (Next m) f = pred_same f.0 f.1.stands
    again_same (Key m) f = ap unless (both (still_same path.pred (pred_open f.0.walk f.1.stands)) (next_same false f.0 f.1.next))
      where
        both : {a b c d : Bool} → a ≡ b → c ≡ d → (a && c) ≡ (b && d)
        both {a} {b} {c} {d} e g = ap (λ x. x && c) e ∙ ap (λ x. b && x) g
    again_same (Confirming goal which m) f = confirming_same goal f.follows f.stands f.goal_known
    again_same (Help m) f = help_same m (exchange_part m.at) f.2
        (wins_same m m.at (λ part. help_open m (subst (HelpAt l h me w n m) part f.2)))
    again_same (Row m) f = pred_same f.0 f.1.sure.stands
    again_same (Words m) f = pred_same f.0 f.1.sure.stands
    again_same (RowValue m) f = pred_same f.0 f.1.sure.stands
    again_same (Link m) f = ap unless (wins_same m m.at (λ part. link_open_at m (subst (LinkAt l h me w m) part f.2)))
    again_same (Mark m) f = ap unless (wins_same m m.at (λ part. mark_open_at m (subst (MarkAt l h me w n m) part f.3)))
    again_same (Tidy m) f = refl
    again_same (Value m) f = refl
    again_same (Ends m) f = refl
    again_same (Rests hand) f = absurd f

  pub behind_same : (op : HeldOp) → Knows l h me op → list_behind l p vs op ≡ list_behind l p ws op
  behind_same op f = ap (λ n. n + again_at p vs op.path op.at) (rest_same op.reply op.path f.walk f.next op.at f.at)
      ∙ ap (λ n. rest_at l ws op.path op.at + n) (again_same op.reply op.path f.walk f.next op.at f.at)

-- What a call knows lasts while others change the heap, and stays known as its worker depends on more and has seen more.
use Rattle.std.proofs.Common.{◌≡◌, ◌≢◌, ℕ, ◌≤◌, ◌&&◌, Bool, true, false, List, [], length, Option, Some, None, Contains, refl, sym, subst, arith}
use Rattle.flit_words.specs.declared.layouts.Layout.{Layout}
use Rattle.flit_model.specs.declared.calls.Call.{Call}
use Rattle.flit_model.specs.declared.calls.Reply.{Reply}
use Rattle.flit_model.proofs.Membership.{contains_none}
use Rattle.flit_place.specs.Tags.{Place}
use Rattle.flit_pv.specs.Confirms.{HeldConfirm}
use Rattle.flit_pv.specs.Exchanges.{HeldExchange}
use Rattle.flit_pv.specs.declared.exchanges.Exchanging.{Exchanging}
use Rattle.flit_pv.specs.declared.exchanges.Exchanging.TheVariants.{Ready, Tries, TriesBare, WritesBack, Withdraws, Lowers, Ended}
use Rattle.flit_pv.specs.declared.exchanges.Exchanged.TheVariants.{Won, Lost, Worn}
use Rattle.flit_rows.specs.Shares.{rows_in}
use Rattle.flit_runs.specs.Workings.{Dependency}
use Rattle.flit_runs.specs.Worlds.{Seen, HasSeen, IsAway}
use Rattle.flit_runs.specs.Soundness.{Needs}
use Rattle.flit_structure.specs.Lawful.{is_insert}
use Rattle.flit_structure.specs.Meanings.{IsServed}
use Rattle.flit_crew.specs.Machines.{Part, ToRead, HasRead, ToWin, HasWon, HasWritten, HasLost, Other, exchange_part, exchange_deed, has_linked}
use Rattle.flit_crew.specs.Heaps.{HaveStayed}
use Rattle.flit_crew.specs.Anatomies.{own, rows_but}
use Rattle.flit_crew.specs.Crews.{Who, IsFurther}
use Rattle.flit_list_steps.specs.declared.operations.Path.{Path}
use Rattle.flit_list_steps.specs.declared.operations.Which.{Which}
use Rattle.flit_list_steps.specs.declared.operations.Which.TheVariants.{Back as The_back, Pred as The_pred, Next as The_next}
use Rattle.flit_list_steps.specs.Operations.{At, Head, Next, Key, Confirming, Help, Row, Words, RowValue, Link, Mark, Tidy, Value, Ends, Rests, HeldOp}
use Rattle.flit_list_heap.specs.Keeping.{ListHeap, Kept, Later}
use Rattle.flit_list_heap.proofs.Seen as seen
use Rattle.flit_list_laws.specs.Walks.{Loaded, Walk}
use Rattle.flit_list_laws.specs.ListAnatomy.{list_anatomy}
use Rattle.flit_list_laws.specs.ListCrew.{goal_with, rows_if, ConfirmsOne, IsAloneIf, KnowsAt, Knows}
use Rattle.flit_list_laws.proofs.Lasting as lasting
use Rattle.flit_list_laws.proofs.Growing as growing

pub at_most : (a b c : ℕ) → a ≤ b → b ≤ c → a ≤ c
at_most a b c i j = omega (arith, i, j)

pub and_false : (b : Bool) → (b && false) ≡ false
and_false true = refl
and_false false = refl

-- where its word isn't exchanged yet, its rows aren't linked
pub unlinked_yet : (m : HeldExchange) (at : Exchanging) → exchange_part at ≡ ToWin → has_linked (exchange_deed at m) ≡ false
unlinked_yet m Ready e = refl
unlinked_yet m (Tries slot) e = refl
unlinked_yet m TriesBare e = refl
unlinked_yet m WritesBack e = absurd (cc)
unlinked_yet m Withdraws e = absurd (cc)
unlinked_yet m (Lowers slot found) e = refl
unlinked_yet m (Ended Won) e = absurd (cc)
unlinked_yet m (Ended (Lost found)) e = refl
unlinked_yet m (Ended (Worn word version)) e = refl

module _ (l : Layout) (p : Place) (free : List ℕ) (h k : ListHeap) (who : Option ℕ) (me : Who) (kept : Kept l free k) (goes : Later l who h k)
    (other : who ≢ Some me.name) (early : me.first ≤ length h.progress.settled) (call : Call) (reply : Reply) (path : Path) (w : Walk) (n : Loaded) where
  abbrev own_at : At → List ℕ
  own_at at = own (list_anatomy l p free) (record { call = call; reply = reply; path = path; at = at })

  stayed_if : (m : HeldExchange) → HaveStayed l h k (own_at (Link m)) → HaveStayed l h k (rows_if (exchange_part m.at) (rows_in m.hand.spare))
  stayed_if m stayed = by_part (exchange_part m.at) refl
    where
      by_part : (part : Part) → exchange_part m.at ≡ part → HaveStayed l h k (rows_if part (rows_in m.hand.spare))
      by_part (ToRead word) e = λ row v i. absurd (contains_none row i)
      by_part (HasRead word raw) e = λ row v i. absurd (contains_none row i)
      by_part ToWin e = subst (λ b. HaveStayed l h k (rows_but (list_anatomy l p free) b m.hand.spare)) (and_false (is_insert call))
          (subst (λ b. HaveStayed l h k (rows_but (list_anatomy l p free) (is_insert call && b) m.hand.spare)) (unlinked_yet m m.at e) stayed)
      by_part HasWon e = λ row v i. absurd (contains_none row i)
      by_part HasWritten e = λ row v i. absurd (contains_none row i)
      by_part (HasLost found) e = λ row v i. absurd (contains_none row i)
      by_part Other e = λ row v i. absurd (contains_none row i)

  one_lasts : (m : HeldConfirm) (which : Which) → ConfirmsOne l h me w n m which → ConfirmsOne l k me w n m which
  one_lasts m The_back f = f
  one_lasts m The_pred f = f
  one_lasts m The_next f = f

  alone_lasts : (part : Part) → IsAloneIf l h me part → IsAloneIf l k me part
  alone_lasts (ToRead word) f = tt
  alone_lasts (HasRead word raw) f = tt
  alone_lasts ToWin f = tt
  alone_lasts HasWon f = tt
  alone_lasts HasWritten f = tt
  alone_lasts (HasLost found) f = f
  alone_lasts Other f = tt

  pub at_lasts : (at : At) → HaveStayed l h k (own_at at) → KnowsAt l h me reply path w n at → KnowsAt l k me reply path w n at
  at_lasts (Head m) stayed f = lasting.knows_head l free h k who me kept goes other early m f
  at_lasts (Next m) stayed f = (f.0, lasting.knows_next l free h k who me kept goes other early w m f.1)
  at_lasts (Key m) stayed f = (f.0, lasting.knows_key l free h k who me kept goes other early w n m f.1)
  at_lasts (Confirming goal which m) stayed f = record {
    alone = f.alone;
    follows = f.follows;
    stands = lasting.stands_lasts l free h k who me kept goes other early w f.stands;
    goal_known = lasting.goal_lasts l free h k who me kept goes other early w (goal_with goal n) f.stands f.goal_known;
    one = one_lasts m which f.one;
  }
  at_lasts (Help m) stayed f = (f.0, f.1, lasting.help_at l free h k who me kept goes other early w n m (exchange_part m.at) f.2)
  at_lasts (Row m) stayed f = (f.0, lasting.knows_take l free h k who me kept goes other early w f.1)
  at_lasts (Words m) stayed f = (f.0, lasting.knows_words l free h k who me kept goes other early w m f.1)
  at_lasts (RowValue m) stayed f = (f.0, lasting.knows_value l free h k who me kept goes other early w m stayed f.1)
  at_lasts (Link m) stayed f =
      (f.0, alone_lasts (exchange_part m.at) f.1, lasting.link_at l free h k who me kept goes other early w m (exchange_part m.at) (stayed_if m stayed) f.2)
  at_lasts (Mark m) stayed f = (f.0, f.1, f.2, lasting.mark_at l free h k who me kept goes other early w n m (exchange_part m.at) f.3)
  at_lasts (Tidy m) stayed f = (f.0, lasting.tidy_at l free h k who me kept goes other early w n m (exchange_part m.at) f.1)
  at_lasts (Value m) stayed f = (f.0, lasting.knows_get l free h k who me kept goes other early w m f.1)
  at_lasts (Ends m) stayed f = lasting.says l free h k who me kept goes other early reply w f
  at_lasts (Rests hand) stayed f = absurd f

-- what it knows lasts while others change the heap
pub lasts : (l : Layout) (p : Place) (free : List ℕ) (h k : ListHeap) (who : Option ℕ) (me : Who) (op : HeldOp) → Kept l free k → Later l who h k →
    who ≢ Some me.name → HaveStayed l h k (own (list_anatomy l p free) op) → Knows l h me op → Knows l k me op
lasts l p free h k who me op kept goes other stayed f = record {
  first = at_most me.first (length h.progress.settled) (length k.progress.settled) f.first (seen.longer l who h k goes);
  served = f.served;
  walk = f.walk;
  next = f.next;
  at = at_lasts l p free h k who me kept goes other f.first op.call op.reply op.path f.walk f.next op.at stayed f.at;
}

-- ---- its worker is further

module _ (l : Layout) (h : ListHeap) (me : Who) (ns : List Dependency) (ss : List Seen) (ps : List ℕ) (needs : (w v : ℕ) → Needs me.needs w v → Needs ns w v)
    (seen_more : (w raw : ℕ) → HasSeen me.seen w raw → HasSeen ss w raw) (private : (w : ℕ) → IsAway me.private w → IsAway ps w)
    (reply : Reply) (path : Path) (w : Walk) (n : Loaded) where
  abbrev you : Who
  you = record me { needs = ns; seen = ss; private = ps }

  one_more : (m : HeldConfirm) (which : Which) → ConfirmsOne l h me w n m which → ConfirmsOne l h you w n m which
  one_more m The_back f = f
  one_more m The_pred f = (growing.back_same l h me ns ss ps needs seen_more private w.back f.0, f.1)
  one_more m The_next f = (growing.back_same l h me ns ss ps needs seen_more private w.back f.0, f.1, f.2)

  alone_more : (part : Part) → IsAloneIf l h me part → IsAloneIf l h you part
  alone_more (ToRead word) f = tt
  alone_more (HasRead word raw) f = tt
  alone_more ToWin f = tt
  alone_more HasWon f = tt
  alone_more HasWritten f = tt
  alone_more (HasLost found) f = growing.alone l h me ns ss ps needs seen_more private f
  alone_more Other f = tt

  pub at_more : (at : At) → KnowsAt l h me reply path w n at → KnowsAt l h you reply path w n at
  at_more (Head m) f = growing.knows_head l h me ns ss ps needs seen_more private m f
  at_more (Next m) f = (f.0, growing.knows_next l h me ns ss ps needs seen_more private w m f.1)
  at_more (Key m) f = (f.0, growing.knows_key l h me ns ss ps needs seen_more private w n m f.1)
  at_more (Confirming goal which m) f = record {
    alone = growing.alone l h me ns ss ps needs seen_more private f.alone;
    follows = f.follows;
    stands = growing.stands l h me ns ss ps needs seen_more private w f.stands;
    goal_known = growing.has_goal l h me ns ss ps needs seen_more private w (goal_with goal n) f.goal_known;
    one = one_more m which f.one;
  }
  at_more (Help m) f =
      (f.0, growing.alone l h me ns ss ps needs seen_more private f.1, growing.help_at l h me ns ss ps needs seen_more private w n m (exchange_part m.at) f.2)
  at_more (Row m) f = (f.0, growing.knows_take l h me ns ss ps needs seen_more private w f.1)
  at_more (Words m) f = (f.0, growing.knows_words l h me ns ss ps needs seen_more private w m f.1)
  at_more (RowValue m) f = (f.0, growing.knows_value l h me ns ss ps needs seen_more private w m f.1)
  at_more (Link m) f = (f.0, alone_more (exchange_part m.at) f.1, growing.link_at l h me ns ss ps needs seen_more private w m (exchange_part m.at) f.2)
  at_more (Mark m) f = (
    f.0,
    f.1,
    growing.alone l h me ns ss ps needs seen_more private f.2,
    growing.mark_at l h me ns ss ps needs seen_more private w n m (exchange_part m.at) f.3,
  )
  at_more (Tidy m) f = (f.0, growing.tidy_at l h me ns ss ps needs seen_more private w n m (exchange_part m.at) f.1)
  at_more (Value m) f = (f.0, growing.knows_get l h me ns ss ps needs seen_more private w m f.1)
  at_more (Ends m) f = growing.says l h me ns ss ps needs seen_more private reply w f
  at_more (Rests hand) f = absurd f

pub more_at : (l : Layout) (h : ListHeap) (me you : Who) → IsFurther me you → (reply : Reply) (path : Path) (w : Walk) (n : Loaded) (at : At) →
    KnowsAt l h me reply path w n at → KnowsAt l h you reply path w n at
more_at l h me you further reply path w n at f = subst (λ x. KnowsAt l h x reply path w n at) (growing.same_worker me you further)
    (at_more l h me you.needs you.seen you.private further.needs further.seen further.private reply path w n at f)

-- what it knows stays known as its worker depends on more and has seen more, and as fewer words are private
pub more : (l : Layout) (h : ListHeap) (me you : Who) (op : HeldOp) → IsFurther me you → Knows l h me op → Knows l h you op
more l h me you op further f = record {
  first = subst (λ n. n ≤ length h.progress.settled) (sym further.first) f.first;
  served = subst (IsServed l) (sym further.call) f.served;
  walk = f.walk;
  next = f.next;
  at = more_at l h me you further op.reply op.path f.walk f.next op.at f.at;
}

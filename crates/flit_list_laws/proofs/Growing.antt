-- What a call knows stays known as its worker depends on more and has seen more, and as fewer words are private.
use Rattle.std.proofs.Common.{◌≡◌, ℕ, Bool, true, false, List, Option, Some, None, sym, ap, ◌∙◌, subst}
use Rattle.flit_words.specs.declared.layouts.Layout.{Layout}
use Rattle.flit_words.specs.Layouts.{head_of_key, row_word_of, value_word_of}
use Rattle.flit_model.specs.Maps.{key_of}
use Rattle.flit_words.specs.Words.{version_of}
use Rattle.flit_model.specs.declared.calls.Call.{Call}
use Rattle.flit_model.specs.declared.calls.Call.TheVariants.{Insert, Remove, Contains as Contains_call, Get as Get_call}
use Rattle.flit_model.specs.declared.calls.Reply.{Reply}
use Rattle.flit_model.specs.declared.calls.Reply.TheVariants.{Yes, No, Found, Full, Worn}
use Rattle.flit_pv.specs.declared.v_loads.VLoading.{VLoading}
use Rattle.flit_pv.specs.declared.v_loads.VLoading.TheVariants.{Reads as V_reads, Has as V_has}
use Rattle.flit_pv.specs.VLoads.{HeldVLoad}
use Rattle.flit_pv.specs.Exchanges.{HeldExchange}
use Rattle.flit_pv.specs.Stores.{HeldStore}
use Rattle.flit_runs.specs.Workings.{Dependency}
use Rattle.flit_runs.specs.Worlds.{Seen, HasSeen, IsAway}
use Rattle.flit_runs.specs.Soundness.{Needs}
use Rattle.flit_structure.specs.Lawful.{is_insert}
use Rattle.flit_crew.specs.Machines.{Part, ToRead, HasRead, ToWin, HasWon, HasWritten, HasLost, Other, exchange_part}
use Rattle.flit_crew.specs.Crews.{Who, IsFurther}
use Rattle.flit_list_heap.specs.Links.{Head as Head_word, Next as Next_word, place_of}
use Rattle.flit_list_heap.specs.Keeping.{ListHeap}
use Rattle.flit_list_laws.specs.Walks.{Loaded, Walk, Goal, Helps, Finds, Passes}
use Rattle.flit_list_laws.specs.Knowing.{unsure, IsBackSure, IsAlone, IsHeldSo, IsHeld, IsBackHeld, row_after, IsFact, Stands, StandsSure, HasNext, IsRow, HeadRead, KnowsHead, NextRead, KnowsNext, WordRead, KnowsKey, HasGoal, Helps_to, Helped, HelpAt, LinkAt, Marked, MarkAt, TidyAt, KnowsTake, KnowsWords, KnowsValue, HasFound, KnowsGet, SaysNo, SaysYes, Says}

module _ (l : Layout) (h : ListHeap) (me : Who) (ns : List Dependency) (ss : List Seen) (ps : List ℕ) (needs : (w v : ℕ) → Needs me.needs w v → Needs ns w v)
    (seen : (w raw : ℕ) → HasSeen me.seen w raw → HasSeen ss w raw) (private : (w : ℕ) → IsAway me.private w → IsAway ps w) where
  abbrev you : Who
  you = record me { needs = ns; seen = ss; private = ps }

  pub alone : IsAlone l me → IsAlone l you
  alone a v = private v (a v)

  held_so : (b : Bool) (w raw : ℕ) → IsHeldSo l me b w raw → IsHeldSo l you b w raw
  held_so true w raw f = needs w (version_of raw) f
  held_so false w raw f = seen w raw f

  held : (p : Loaded) → IsHeld l me p → IsHeld l you p
  held p f = held_so p.sure (place_of l p.word) p.raw f

  back_held : (o : Option Loaded) → IsBackHeld l me o → IsBackHeld l you o
  back_held None f = tt
  back_held (Some p) f = held p f

  pub back_same : (o : Option Loaded) → IsBackSure l me o → IsBackSure l you o
  back_same None f = f
  back_same (Some p) f = f

  fact : (p : Loaded) → IsFact l h me p → IsFact l h you p
  fact p f = record { saw = f.saw; held = held p f.held }

  pub stands : (w : Walk) → Stands l h me w → Stands l h you w
  stands w f = record { spot = f.spot; back = back_held w.back f.back; link = held w.link f.link }

  pub sure : (w : Walk) → StandsSure l h me w → StandsSure l h you w
  sure w f = record { stands = stands w f.stands; back = back_same w.back f.back; link = f.link }

  next : (w : Walk) (n : Loaded) (marked : Bool) → HasNext l h me w n marked → HasNext l h you w n marked
  next w n marked f = record { next = f.next; word = f.word; held = held n f.held }

  row : (r : ℕ) → IsRow l h me r → IsRow l h you r
  row r f = record { here = f.here; mine = f.mine }

  head_read : (at : VLoading) → HeadRead l h me at → HeadRead l h you at
  head_read V_reads f = tt
  head_read (V_has raw) f =
      (fact (unsure (Head_word (head_of_key l (key_of me.call))) raw) f.0, f.1)

  pub knows_head : (m : HeldVLoad) → KnowsHead l h me m → KnowsHead l h you m
  knows_head m f = record { alone = alone f.alone; word = f.word; read = head_read m.at f.read }

  next_read : (r : ℕ) (at : VLoading) → NextRead l h me r at → NextRead l h you r at
  next_read r V_reads f = tt
  next_read r (V_has raw) f = (fact (unsure (Next_word r) raw) f.0, λ u. ((f.1 u).0, row r (f.1 u).1))

  pub knows_next : (w : Walk) (m : HeldVLoad) → KnowsNext l h me w m → KnowsNext l h you w m
  knows_next w m f = record {
    alone = alone f.alone;
    stands = stands w f.stands;
    some = f.some;
    gone = f.gone;
    word = f.word;
    read = next_read (row_after w) m.at f.read;
  }

  word_read : (v : ℕ) (at : VLoading) → WordRead l h me v at → WordRead l h you v at
  word_read v V_reads f = tt
  word_read v (V_has raw) f = f

  pub knows_key : (w : Walk) (n : Loaded) (m : HeldVLoad) → KnowsKey l h me w n m → KnowsKey l h you w n m
  knows_key w n m f = record {
    alone = alone f.alone;
    stands = stands w f.stands;
    next = next w n false f.next;
    unsure = f.unsure;
    gone = f.gone;
    behind = f.behind;
    row = row (row_after w) f.row;
    word = f.word;
    read = word_read (row_word_of l (row_after w) 0) m.at f.read;
  }

  pub has_goal : (w : Walk) (goal : Goal) → HasGoal l h me w goal → HasGoal l h you w goal
  has_goal w (Helps n) f = next w n true f
  has_goal w (Finds n) f = (next w n false f.0, f.1, row (row_after w) f.2)
  has_goal w Passes f = f

  helps_to : (w : Walk) (n : Loaded) (m : HeldExchange) → Helps_to l h me w n m → Helps_to l h you w n m
  helps_to w n m f = record {
    sure = sure w f.sure;
    next = next w n true f.next;
    next_sure = f.next_sure;
    aim = record { word = f.aim.word; from_is = f.aim.from_is };
    to = f.to;
  }

  helped : (w : Walk) (m : HeldExchange) → Helped l h me w m → Helped l h you w m
  helped w m f = record {
    word = f.word;
    behind = f.behind;
    back = back_held w.back f.back;
    back_sure = back_same w.back f.back_sure;
    saw = f.saw;
    needs = needs (place_of l w.link.word) (version_of m.to) f.needs;
    bare = f.bare;
    unmarked = f.unmarked;
    gone = f.gone;
    linked = f.linked;
    further = f.further;
  }

  pub help_at : (w : Walk) (n : Loaded) (m : HeldExchange) (part : Part) → HelpAt l h me w n m part → HelpAt l h you w n m part
  help_at w n m (ToRead word) f = tt
  help_at w n m (HasRead word raw) f = tt
  help_at w n m ToWin f = helps_to w n m f
  help_at w n m HasWon f = helped w m f
  help_at w n m HasWritten f = helped w m f
  help_at w n m (HasLost found) f = f
  help_at w n m Other f = tt

  pub link_at : (w : Walk) (m : HeldExchange) (part : Part) → LinkAt l h me w m part → LinkAt l h you w m part
  link_at w m (ToRead word) f = tt
  link_at w m (HasRead word raw) f = tt
  link_at w m ToWin f = record {
    sure = sure w f.sure;
    passed = f.passed;
    insert = f.insert;
    row = f.row;
    own = f.own;
    key = f.key;
    next = f.next;
    value = f.value;
    aim = record { word = f.aim.word; from_is = f.aim.from_is };
    to = f.to;
  }
  link_at w m HasWon f = tt
  link_at w m HasWritten f = tt
  link_at w m (HasLost found) f = tt
  link_at w m Other f = tt

  marked : (w : Walk) (n : Loaded) (m : HeldExchange) → Marked l h me w n m → Marked l h you w n m
  marked w n m f = record { sure = sure w f.sure; word = f.word; some = f.some; linked = f.linked; is = f.is; marked = f.marked; same = f.same }

  pub mark_at : (w : Walk) (n : Loaded) (m : HeldExchange) (part : Part) → MarkAt l h me w n m part → MarkAt l h you w n m part
  mark_at w n m (ToRead word) f = tt
  mark_at w n m (HasRead word raw) f = tt
  mark_at w n m ToWin f = record {
    sure = sure w f.sure;
    next = next w n false f.next;
    next_sure = f.next_sure;
    key = f.key;
    mine = f.mine;
    named = f.named;
    aim = record { word = f.aim.word; from_is = f.aim.from_is };
    to = f.to;
  }
  mark_at w n m HasWon f = marked w n m f
  mark_at w n m HasWritten f = (marked w n m f.0, f.1)
  mark_at w n m (HasLost found) f = tt
  mark_at w n m Other f = tt

  pub tidy_at : (w : Walk) (n : Loaded) (m : HeldExchange) (part : Part) → TidyAt l h me w n m part → TidyAt l h you w n m part
  tidy_at w n m (ToRead word) f = tt
  tidy_at w n m (HasRead word raw) f = tt
  tidy_at w n m ToWin f = record {
    sure = sure w f.sure;
    some = f.some;
    linked = f.linked;
    is = f.is;
    marked = f.marked;
    leads = f.leads;
    aim = record { word = f.aim.word; from_is = f.aim.from_is };
    to = f.to;
  }
  tidy_at w n m HasWon f = tt
  tidy_at w n m HasWritten f = tt
  tidy_at w n m (HasLost found) f = tt
  tidy_at w n m Other f = tt

  pub knows_take : (w : Walk) → KnowsTake l h me w → KnowsTake l h you w
  knows_take w f = record { alone = alone f.alone; sure = sure w f.sure; passed = f.passed; insert = f.insert }

  pub knows_words : (w : Walk) (m : HeldStore) → KnowsWords l h me w m → KnowsWords l h you w m
  knows_words w m f = record {
    sure = sure w f.sure;
    passed = f.passed;
    insert = f.insert;
    row = f.row;
    own = f.own;
    private = λ v a b. private v (f.private v a b);
  }

  pub knows_value : (w : Walk) (m : HeldStore) → KnowsValue l h me w m → KnowsValue l h you w m
  knows_value w m f = record {
    sure = sure w f.sure;
    passed = f.passed;
    insert = f.insert;
    valued = f.valued;
    row = f.row;
    own = f.own;
    key = f.key;
    next = f.next;
    private = λ v a. private v (f.private v a);
  }

  found : (w : Walk) → HasFound l h me w → HasFound l h you w
  found w f = record { fact = fact w.link f.fact; sure = f.sure; some = f.some; key = f.key; here = f.here }

  pub knows_get : (w : Walk) (m : HeldVLoad) → KnowsGet l h me w m → KnowsGet l h you w m
  knows_get w m f = record {
    sure = sure w f.sure;
    valued = f.valued;
    found = found w f.found;
    word = f.word;
    read = word_read (value_word_of l (row_after w)) m.at f.read;
  }

  says_no : (b : Bool) (w : Walk) → SaysNo l h me b w → SaysNo l h you b w
  says_no true w f = found w f
  says_no false w f = f

  says_yes : (call : Call) (w : Walk) → SaysYes l h me call w → SaysYes l h you call w
  says_yes (Insert a v) w f = tt
  says_yes (Remove a) w f = tt
  says_yes (Contains_call a) w f = found w f
  says_yes (Get_call a) w f = tt

  pub says : (reply : Reply) (w : Walk) → Says l h me reply w → Says l h you reply w
  says Yes w f = says_yes me.call w f
  says No w f = says_no (is_insert me.call) w f
  says (Found value) w f = (found w f.0, f.1)
  says (Full ticket) w f = tt
  says (Worn word version) w f = tt

-- a worker that is further is this one with what it depends on and has seen
module _ (me you : Who) (further : IsFurther me you) where
  abbrev who : ℕ → ℕ → Call → ℕ → Who
  who name number call first = record { name = name; number = number; call = call; first = first; needs = you.needs; seen = you.seen; private = you.private }

  pub same_worker : record me { needs = you.needs; seen = you.seen; private = you.private } ≡ you
  same_worker = ap (λ n. who n me.number me.call me.first) (sym further.name) ∙ ap (λ n. who you.name n me.call me.first) (sym further.number)
      ∙ ap (λ c. who you.name you.number c me.first) (sym further.call) ∙ ap (λ f. who you.name you.number you.call f) (sym further.first)

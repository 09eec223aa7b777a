-- What a call knows lasts while others change the heap, by where the call is.
use Rattle.std.proofs.Common.{◌≡◌, ◌≢◌, ℕ, ◌<◌, ◌≤◌, Bool, true, false, List, [], ◌∷◌, length, Option, Some, None, Contains, refl, sym, ap, ◌∙◌, inl, inr, arith, subst}
use Rattle.std.proofs.lemmas.Bool.{both_ways}
use Rattle.flit_words.specs.declared.layouts.Layout.{Layout}
use Rattle.flit_words.specs.declared.layouts.Kind.{Kind}
use Rattle.flit_words.specs.declared.layouts.Kind.TheVariants.{List as List_kind, Hash, Tree as Tree_kind}
use Rattle.flit_words.specs.Layouts.{head_of_key, parts_of, row_word_of, value_word_of}
use Rattle.flit_words.specs.Words.{bare_of, value_of}
use Rattle.flit_model.specs.Maps.{key_of}
use Rattle.flit_model.specs.Lists.{key_in, next_word}
use Rattle.flit_model.specs.declared.calls.Call.{Call}
use Rattle.flit_model.specs.declared.calls.Call.TheVariants.{Insert, Remove, Contains as Contains_call, Get as Get_call}
use Rattle.flit_model.specs.declared.calls.Reply.{Reply}
use Rattle.flit_model.specs.declared.calls.Reply.TheVariants.{Yes, No, Found, Full, Worn}
use Rattle.flit_model.proofs.Membership.{contains_first}
use Rattle.flit_pv.specs.declared.v_loads.VLoading.{VLoading}
use Rattle.flit_pv.specs.declared.v_loads.VLoading.TheVariants.{Reads as V_reads, Has as V_has}
use Rattle.flit_pv.specs.VLoads.{HeldVLoad}
use Rattle.flit_pv.specs.Exchanges.{HeldExchange}
use Rattle.flit_pv.specs.Stores.{HeldStore}
use Rattle.flit_rows.specs.Shares.{rows_in}
use Rattle.flit_structure.specs.Lawful.{is_insert}
use Rattle.flit_crew.specs.Heaps.{at_word, IsWordOf, HaveStayed}
use Rattle.flit_crew.specs.Machines.{Part, ToRead, HasRead, ToWin, HasWon, HasWritten, HasLost, Other, exchange_part}
use Rattle.flit_crew.specs.Crews.{Who}
use Rattle.flit_list_heap.specs.Links.{LinkWord, Head as Head_word, Next as Next_word, row_of, is_marked}
use Rattle.flit_list_heap.specs.Keeping.{ListHeap, IsLinked, IsLinkAt, word_in, shadow_in, Kept, Later}
use Rattle.flit_list_heap.specs.Seeing.{Saw}
use Rattle.flit_list_heap.proofs.Seen as seen
use Rattle.flit_list_laws.specs.Walks.{pair_if, Loaded, Walk, Goal, Helps, Finds, Passes}
use Rattle.flit_list_laws.specs.Knowing as knowing
use Rattle.flit_list_laws.specs.Knowing.{row_after, IsFact, Stands, StandsSure, HasNext, IsGone, IsRow, IsPassed, HeadRead, KnowsHead, NextRead, KnowsNext, WordRead, KnowsKey, HasGoal, Helps_to, Helped, HelpAt, Links_to, LinkAt, Marks_to, Marked, MarkAt, Tidies_to, TidyAt, KnowsTake, KnowsWords, KnowsValue, HasFound, KnowsGet, SaysNo, SaysYes, Says}
use Rattle.flit_list_laws.specs.ListCrew.{rows_if}

pub zero_some : (a : ℕ) → a ≡ 0 → 1 ≤ a → ⊥
zero_some a e i = omega (arith, e, i)

-- the row that a link leads to is linked
pub leads_linked : (l : Layout) (h : ListHeap) (key : ℕ) (x : LinkWord) (u : ℕ) → Saw l h key x u → 1 ≤ row_of u → IsLinked l h (row_of u)
leads_linked l h key x u s some = elim s.form.leads [ inl z ↦ absurd (zero_some (row_of u) z some) | inr f ↦ f.linked ]

one_of_two : (k : Kind) → k ≢ Tree_kind → (p : ℕ) → p < 2 → p < parts_of k
one_of_two List_kind o p b = b
one_of_two Hash o p b = b
one_of_two Tree_kind o p b = absurd (o refl)

module _ (l : Layout) (free : List ℕ) (h k : ListHeap) (who : Option ℕ) (me : Who) (kept : Kept l free k) (goes : Later l who h k) (other : who ≢ Some me.name)
    (early : me.first ≤ length h.progress.settled) where
  abbrev key : ℕ
  key = key_of me.call

  fact_lasts : (p : Loaded) → IsFact l h me p → IsFact l k me p
  fact_lasts p f = record { saw = seen.saw_lasts l who h k goes free kept key p.word (bare_of p.raw) f.saw; held = f.held }

  pub stands_lasts : (w : Walk) → Stands l h me w → Stands l k me w
  stands_lasts w s = record {
    spot = seen.spot_lasts l who h k goes free kept key (pair_if w.back) w.link.word (bare_of w.link.raw) s.spot;
    back = s.back;
    link = s.link;
  }

  pub sure_lasts : (w : Walk) → StandsSure l h me w → StandsSure l k me w
  sure_lasts w s = record { stands = stands_lasts w s.stands; back = s.back; link = s.link }

  next_lasts : (w : Walk) (n : Loaded) (marked : Bool) → HasNext l h me w n marked → HasNext l k me w n marked
  next_lasts w n marked f = record {
    next = seen.next_lasts l who h k goes free kept key (bare_of w.link.raw) (bare_of n.raw) marked f.next;
    word = f.word;
    held = f.held;
  }

  gone_lasts : (p : Loaded) → Saw l h key p.word (bare_of p.raw) → IsGone l h me p → IsGone l k me p
  gone_lasts p s g = seen.gone_lasts l who h k goes me.first key p.word (bare_of p.raw) s g

  row_lasts : (r : ℕ) → IsLinked l h r → IsRow l h me r → IsRow l k me r
  row_lasts r m f = record {
    here = seen.here_lasts l who h k goes me.first key r early m f.here;
    mine = seen.not_mine_lasts l who h k goes me.name r other m f.mine;
  }

  pub passed_lasts : (w : Walk) → Stands l h me w → IsPassed l h me w → IsPassed l k me w
  passed_lasts w s (inl z) = inl z
  passed_lasts w s (inr i) = elim s.spot.saw.form.leads [
    | inl z ↦ inl z
    | inr f ↦ inr (subst (λ n. key < n) (sym (seen.key_lasts l who h k goes (row_after w) f.linked)) i)
  ]

  linked_after : (w : Walk) → Stands l h me w → 1 ≤ row_after w → IsLinked l h (row_after w)
  linked_after w s some = leads_linked l h key w.link.word (bare_of w.link.raw) s.spot.saw some

  key_at : (r : ℕ) → IsLinked l h r → key_in l h.words r ≡ key → key_in l k.words r ≡ key
  key_at r m e = seen.key_lasts l who h k goes r m ∙ e

  -- ---- the search

  head_read : (at : VLoading) → HeadRead l h me at → HeadRead l k me at
  head_read V_reads f = tt
  head_read (V_has raw) f =
      let p = knowing.unsure (Head_word (head_of_key l key)) raw in (fact_lasts p f.0, gone_lasts p f.0.saw f.1)

  pub knows_head : (m : HeldVLoad) → KnowsHead l h me m → KnowsHead l k me m
  knows_head m f = record { alone = f.alone; word = f.word; read = head_read m.at f.read }

  next_read : (r : ℕ) → IsLinked l h r → (at : VLoading) → NextRead l h me r at → NextRead l k me r at
  next_read r m V_reads f = tt
  next_read r m (V_has raw) f =
      let p = knowing.unsure (Next_word r) raw in (fact_lasts p f.0, λ u. (gone_lasts p f.0.saw (f.1 u).0, row_lasts r m (f.1 u).1))

  pub knows_next : (w : Walk) (m : HeldVLoad) → KnowsNext l h me w m → KnowsNext l k me w m
  knows_next w m f = record {
    alone = f.alone;
    stands = stands_lasts w f.stands;
    some = f.some;
    gone = gone_lasts w.link f.stands.spot.saw f.gone;
    word = f.word;
    read = next_read (row_after w) (linked_after w f.stands f.some) m.at f.read;
  }

  word_read : (v : ℕ) → at_word k v ≡ at_word h v → (at : VLoading) → WordRead l h me v at → WordRead l k me v at
  word_read v e V_reads f = tt
  word_read v e (V_has raw) f = f ∙ sym e

  next_saw : (w : Walk) (n : Loaded) (marked : Bool) → HasNext l h me w n marked → Saw l h key n.word (bare_of n.raw)
  next_saw w n marked f = subst (λ x. Saw l h key x (bare_of n.raw)) (sym f.word) f.next.saw

  pub knows_key : (w : Walk) (n : Loaded) (m : HeldVLoad) → KnowsKey l h me w n m → KnowsKey l k me w n m
  knows_key w n m f =
      let r : IsLinked l h (row_after w) = linked_after w f.stands f.next.next.some in record {
        alone = f.alone;
        stands = stands_lasts w f.stands;
        next = next_lasts w n false f.next;
        unsure = f.unsure;
        gone = gone_lasts w.link f.stands.spot.saw f.gone;
        behind = gone_lasts n (next_saw w n false f.next) f.behind;
        row = row_lasts (row_after w) r f.row;
        word = f.word;
        read = word_read (row_word_of l (row_after w) 0) (goes.keys (row_after w) r) m.at f.read;
      }

  pub goal_lasts : (w : Walk) (goal : Goal) → Stands l h me w → HasGoal l h me w goal → HasGoal l k me w goal
  goal_lasts w (Helps n) s f = next_lasts w n true f
  goal_lasts w (Finds n) s f =
      let r : IsLinked l h (row_after w) = linked_after w s f.0.next.some in
      (next_lasts w n false f.0, key_at (row_after w) r f.1, row_lasts (row_after w) r f.2)
  goal_lasts w Passes s f = (passed_lasts w s f.0, gone_lasts w.link s.spot.saw f.1)

  -- ---- exchanges

  helps_to : (w : Walk) (n : Loaded) (m : HeldExchange) → Helps_to l h me w n m → Helps_to l k me w n m
  helps_to w n m f = record {
    sure = sure_lasts w f.sure;
    next = next_lasts w n true f.next;
    next_sure = f.next_sure;
    aim = record { word = f.aim.word; from_is = f.aim.from_is };
    to = f.to;
  }

  helped : (w : Walk) (m : HeldExchange) → Helped l h me w m → Helped l k me w m
  helped w m f = record {
    word = f.word;
    behind = seen.behind_lasts l who h k goes free kept key (pair_if w.back) w.link.word f.behind;
    back = f.back;
    back_sure = f.back_sure;
    saw = seen.saw_lasts l who h k goes free kept key w.link.word m.to f.saw;
    needs = f.needs;
    bare = f.bare;
    unmarked = f.unmarked;
    gone = seen.gone_lasts l who h k goes me.first key w.link.word m.to f.saw f.gone;
    linked = seen.linked_lasts l who h k goes (row_after w) f.linked;
    further = elim f.further [
      | inl z ↦ inl z
      | inr i ↦ inr (
        seen.linked_lasts l who h k goes (row_of m.to) i.0,
        less (key_in l h.words (row_after w)) (key_in l h.words (row_of m.to)) (key_in l k.words (row_after w)) (key_in l k.words (row_of m.to)) i.1
            (seen.key_lasts l who h k goes (row_after w) f.linked) (seen.key_lasts l who h k goes (row_of m.to) i.0),
      )
    ];
  }
    where
      less : (a b c d : ℕ) → a < b → c ≡ a → d ≡ b → c < d
      less a b c d i e g = omega (arith, i, e, g)

  pub help_at : (w : Walk) (n : Loaded) (m : HeldExchange) (part : Part) → HelpAt l h me w n m part → HelpAt l k me w n m part
  help_at w n m (ToRead word) f = tt
  help_at w n m (HasRead word raw) f = tt
  help_at w n m ToWin f = helps_to w n m f
  help_at w n m HasWon f = helped w m f
  help_at w n m HasWritten f = helped w m f
  help_at w n m (HasLost found) f = elim f [ inl z ↦ inl z | inr is ↦ inr (seen.linked_lasts l who h k goes (row_after w) is) ]
  help_at w n m Other f = tt

  -- what the words of an own row hold stays
  module _ (rows : List ℕ) (row : ℕ) (own : rows ≡ row ∷ []) (stayed : HaveStayed l h k rows) where
    word_stays : (v : ℕ) → IsWordOf l row v → at_word k v ≡ at_word h v
    word_stays v o = stayed row v (subst (λ rs. Contains rs row) (sym own) (contains_first row [])) o

    key_stays : at_word k (row_word_of l row 0) ≡ at_word h (row_word_of l row 0)
    key_stays = word_stays (row_word_of l row 0) (inl (0, one_of_two l.kind kept.chained.kind 0 (omega arith), refl))

    next_stays : at_word k (next_word l row) ≡ at_word h (next_word l row)
    next_stays = word_stays (next_word l row) (inl (1, one_of_two l.kind kept.chained.kind 1 (omega arith), refl))

    value_stays : l.values ≡ true → at_word k (value_word_of l row) ≡ at_word h (value_word_of l row)
    value_stays v = word_stays (value_word_of l row) (inr (v, refl))

  links_to : (w : Walk) (m : HeldExchange) → HaveStayed l h k (rows_in m.hand.spare) → Links_to l h me w m → Links_to l k me w m
  links_to w m stayed f = record {
    sure = sure_lasts w f.sure;
    passed = passed_lasts w f.sure.stands f.passed;
    insert = f.insert;
    row = f.row;
    own = f.own;
    key = ap value_of (key_stays (rows_in m.hand.spare) f.row f.own stayed) ∙ f.key;
    next = ap value_of (next_stays (rows_in m.hand.spare) f.row f.own stayed) ∙ f.next;
    value = λ v. ap value_of (value_stays (rows_in m.hand.spare) f.row f.own stayed v) ∙ f.value v;
    aim = record { word = f.aim.word; from_is = f.aim.from_is };
    to = f.to;
  }

  pub link_at : (w : Walk) (m : HeldExchange) (part : Part) → HaveStayed l h k (rows_if part (rows_in m.hand.spare)) → LinkAt l h me w m part →
      LinkAt l k me w m part
  link_at w m (ToRead word) stayed f = tt
  link_at w m (HasRead word raw) stayed f = tt
  link_at w m ToWin stayed f = links_to w m stayed f
  link_at w m HasWon stayed f = tt
  link_at w m HasWritten stayed f = tt
  link_at w m (HasLost found) stayed f = tt
  link_at w m Other stayed f = tt

  marks_to : (w : Walk) (n : Loaded) (m : HeldExchange) → Marks_to l h me w n m → Marks_to l k me w n m
  marks_to w n m f =
      let r : IsLinked l h (row_after w) = linked_after w f.sure.stands f.next.next.some in record {
        sure = sure_lasts w f.sure;
        next = next_lasts w n false f.next;
        next_sure = f.next_sure;
        key = key_at (row_after w) r f.key;
        mine = seen.not_mine_lasts l who h k goes me.name (row_after w) other r f.mine;
        named = f.named;
        aim = record { word = f.aim.word; from_is = f.aim.from_is };
        to = f.to;
      }

  -- a marked word stays, and its shadow where it is the word
  marked_stays : (x : LinkWord) → IsLinkAt l h x → is_marked (word_in l h x) ≡ true → word_in l k x ≡ word_in l h x
  marked_stays x m t = elim (goes.word x m) [ inl e ↦ e | inr g ↦ absurd (both_ways (is_marked (word_in l h x)) g.unmarked t) ]

  shadow_stays : (x : LinkWord) (u : ℕ) → IsLinkAt l h x → word_in l h x ≡ u → shadow_in l h x ≡ u → shadow_in l k x ≡ u
  shadow_stays x u m e f = elim (goes.shadow x m) [ inl s ↦ s ∙ f | inr s ↦ s.now ∙ e ]

  marked : (w : Walk) (n : Loaded) (m : HeldExchange) → Marked l h me w n m → Marked l k me w n m
  marked w n m f = record {
    sure = sure_lasts w f.sure;
    word = f.word;
    some = f.some;
    linked = seen.linked_lasts l who h k goes (row_after w) f.linked;
    is = f.is ∙ sym (marked_stays (Next_word (row_after w)) f.linked (ap is_marked (sym f.is) ∙ f.marked));
    marked = f.marked;
    same = f.same;
  }

  pub mark_at : (w : Walk) (n : Loaded) (m : HeldExchange) (part : Part) → MarkAt l h me w n m part → MarkAt l k me w n m part
  mark_at w n m (ToRead word) f = tt
  mark_at w n m (HasRead word raw) f = tt
  mark_at w n m ToWin f = marks_to w n m f
  mark_at w n m HasWon f = marked w n m f
  mark_at w n m HasWritten f = (marked w n m f.0, shadow_stays (Next_word (row_after w)) m.to f.0.linked (sym f.0.is) f.1)
  mark_at w n m (HasLost found) f = tt
  mark_at w n m Other f = tt

  tidies_to : (w : Walk) (n : Loaded) (m : HeldExchange) → Tidies_to l h me w n m → Tidies_to l k me w n m
  tidies_to w n m f =
      let x : LinkWord = Next_word (row_after w) in
      let s : shadow_in l k x ≡ shadow_in l h x = shadow_stays x (shadow_in l h x) f.linked f.is refl in
      let e : word_in l k x ≡ word_in l h x = marked_stays x f.linked (ap is_marked f.is ∙ f.marked) in record {
        sure = sure_lasts w f.sure;
        some = f.some;
        linked = seen.linked_lasts l who h k goes (row_after w) f.linked;
        is = e ∙ f.is ∙ sym s;
        marked = ap is_marked s ∙ f.marked;
        leads = ap row_of s ∙ f.leads;
        aim = record { word = f.aim.word; from_is = f.aim.from_is };
        to = f.to;
      }

  pub tidy_at : (w : Walk) (n : Loaded) (m : HeldExchange) (part : Part) → TidyAt l h me w n m part → TidyAt l k me w n m part
  tidy_at w n m (ToRead word) f = tt
  tidy_at w n m (HasRead word raw) f = tt
  tidy_at w n m ToWin f = tidies_to w n m f
  tidy_at w n m HasWon f = tt
  tidy_at w n m HasWritten f = tt
  tidy_at w n m (HasLost found) f = tt
  tidy_at w n m Other f = tt

  -- ---- an own row, a found row, a reply

  pub knows_take : (w : Walk) → KnowsTake l h me w → KnowsTake l k me w
  knows_take w f = record { alone = f.alone; sure = sure_lasts w f.sure; passed = passed_lasts w f.sure.stands f.passed; insert = f.insert }

  pub knows_words : (w : Walk) (m : HeldStore) → KnowsWords l h me w m → KnowsWords l k me w m
  knows_words w m f = record {
    sure = sure_lasts w f.sure;
    passed = passed_lasts w f.sure.stands f.passed;
    insert = f.insert;
    row = f.row;
    own = f.own;
    private = f.private;
  }

  pub knows_value : (w : Walk) (m : HeldStore) → HaveStayed l h k (rows_in m.hand.spare) → KnowsValue l h me w m → KnowsValue l k me w m
  knows_value w m stayed f = record {
    sure = sure_lasts w f.sure;
    passed = passed_lasts w f.sure.stands f.passed;
    insert = f.insert;
    valued = f.valued;
    row = f.row;
    own = f.own;
    key = ap value_of (key_stays (rows_in m.hand.spare) f.row f.own stayed) ∙ f.key;
    next = ap value_of (next_stays (rows_in m.hand.spare) f.row f.own stayed) ∙ f.next;
    private = f.private;
  }

  found_linked : (w : Walk) → HasFound l h me w → IsLinked l h (row_after w)
  found_linked w f = leads_linked l h key w.link.word (bare_of w.link.raw) f.fact.saw f.some

  found_lasts : (w : Walk) → HasFound l h me w → HasFound l k me w
  found_lasts w f = record {
    fact = fact_lasts w.link f.fact;
    sure = f.sure;
    some = f.some;
    key = key_at (row_after w) (found_linked w f) f.key;
    here = seen.here_lasts l who h k goes me.first key (row_after w) early (found_linked w f) f.here;
  }

  pub knows_get : (w : Walk) (m : HeldVLoad) → KnowsGet l h me w m → KnowsGet l k me w m
  knows_get w m f = record {
    sure = sure_lasts w f.sure;
    valued = f.valued;
    found = found_lasts w f.found;
    word = f.word;
    read = word_read (value_word_of l (row_after w)) (goes.values (row_after w) (found_linked w f.found) f.valued) m.at f.read;
  }

  says_no : (b : Bool) (w : Walk) → SaysNo l h me b w → SaysNo l k me b w
  says_no true w f = found_lasts w f
  says_no false w f = seen.had_lasts l who h k goes me.first key None f

  says_yes : (call : Call) (w : Walk) → SaysYes l h me call w → SaysYes l k me call w
  says_yes (Insert a v) w f = tt
  says_yes (Remove a) w f = tt
  says_yes (Contains_call a) w f = found_lasts w f
  says_yes (Get_call a) w f = tt

  pub says : (reply : Reply) (w : Walk) → Says l h me reply w → Says l k me reply w
  says Yes w f = says_yes me.call w f
  says No w f = says_no (is_insert me.call) w f
  says (Found value) w f = (found_lasts w f.0, f.1 ∙ sym (seen.value_lasts l who h k goes (row_after w) (found_linked w f.0)))
  says (Full ticket) w f = tt
  says (Worn word version) w f = tt

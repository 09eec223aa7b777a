-- A write-back of any word keeps what is kept, and leaves what others rely on.
use Rattle.std.proofs.Common.{◌≡◌, ◌≢◌, ℕ, ◌<◌, length, Bool, true, false, List, Option, Some, None, refl, sym, ap, ◌∙◌, inl, inr, subst}
use Rattle.std.specs.FinMap as fin
use Rattle.std.specs.Option.{option_to_list}
use Rattle.std.proofs.lemmas.Bool.{cases_eq, both_ways}
use Rattle.std.proofs.lemmas.List.{length-set}
use Rattle.flit_words.specs.declared.layouts.Layout.{Layout}
use Rattle.flit_words.specs.Layouts.{words_of, row_word_of, value_word_of}
use Rattle.flit_words.specs.Words.{is_tagged}
use Rattle.flit_place.proofs.CoverSteps.{index-set}
use Rattle.flit_model.specs.Maps.{Map}
use Rattle.flit_model.specs.Lists.{key_in}
use Rattle.flit_model.specs.declared.calls.Entry.{Entry}
use Rattle.flit_crew.specs.Heaps.{at_word, at_shadow, waits_at, written, IsAhead}
use Rattle.flit_list_heap.specs.Links.{LinkWord, Rows, place_of, row_of, is_marked}
use Rattle.flit_list_heap.specs.Chained.{Chained, Settled, settled_after, map_with, IsAnswered}
use Rattle.flit_list_heap.specs.Keeping.{ListHeap, IsLinked, IsLinkAt, rows_at, word_in, shadow_in, entry_in, content_of, Kept, Later}
use Rattle.flit_list_heap.proofs.Base.{cases_word}
use Rattle.flit_list_heap.proofs.Settle.{settle}
use Rattle.flit_list_heap.proofs.Reaching.{joins}
use Rattle.flit_list_heap.proofs.Agreeing.{heap-agrees}
use Rattle.flit_list_heap.proofs.Picking.{put_at, pick_here, pick_there, put_changed}
use Rattle.flit_list_heap.proofs.Progressing.{settled_off, settled_here, settled_list, settled_map, settled_legal, grown_after}
use Rattle.flit_list_heap.proofs.Inserting.{insert_settled}
use Rattle.flit_list_heap.proofs.Places.{At, at_word_or, place_one}

module _ (l : Layout) (free : List ℕ) (h : ListHeap) (kept : Kept l free h) (w : ℕ) (below : w < words_of l) (bare : is_tagged (at_word h w) ≡ false) where
  abbrev c : Rows
  c = rows_at l h

  abbrev o : Option Entry
  o = waits_at h w

  abbrev m : Map
  m = content_of h

  abbrev pub ghost_after : ℕ → Bool
  ghost_after = settled_after h.ghost o (row_of (at_word h w))

  abbrev pub k : ListHeap
  k = written h w ghost_after

  within : w < length h.shadows
  within = subst (λ n. w < n) (sym kept.shadows) below

  set_off : (v : ℕ) → v ≢ w → at_shadow k v ≡ at_shadow h v
  set_off v ne = elim (index-set h.shadows w (at_word h w) v within) [ inl e ↦ absurd (ne e.0) | inr e ↦ e.1 ]

  set_here : (v : ℕ) → v ≡ w → at_shadow k v ≡ at_word h w
  set_here v s = elim (index-set h.shadows w (at_word h w) v within) [ inl e ↦ e.1 | inr e ↦ absurd (e.0 s) ]

  still_solid : (v : ℕ) → at_word h v ≡ at_shadow h v → at_word h v ≡ at_shadow k v
  still_solid v s = elim (cases_eq v w) [ inl e ↦ ap (at_word h) e ∙ sym (set_here v e) | inr ne ↦ s ∙ sym (set_off v ne) ]

  -- what a write-back gives of the links and of the answer
  pub record GivesSettled : Type 0 where
    pub answers : IsAnswered m o
    pub chained : Chained c ghost_after (word_in l h) (shadow_in l k) (entry_in l k) (map_with m o)
    pub joining : (r : ℕ) → IsLinked l h r → h.ghost r ≡ false → ghost_after r ≡ true → fin.get (map_with m o) (c.key r) ≡ Some (c.value r)

  outside : ((x : LinkWord) → IsLinkAt l h x → place_of l x ≡ w → ⊥) → GivesSettled
  outside a =
      let none : o ≡ None = kept.elsewhere w a in
      record {
        answers = subst (IsAnswered m) (sym none) tt;
        chained = subst (λ e. Chained c (settled_after h.ghost e (row_of (at_word h w))) (word_in l h) (shadow_in l k) (entry_in l k) (map_with m e)) (sym none)
            (heap-agrees c (word_in l h) (shadow_in l h) (word_in l h) (shadow_in l k) (λ x lx. refl) (λ x lx. set_off (place_of l x) (a x lx)) h.ghost
            (entry_in l h) (entry_in l k) m (λ x lx. settled_off h.progress w (place_of l x) o (a x lx)) kept.chained);
        joining = λ r lr f t. absurd (both_ways (h.ghost r) f (subst (λ e. settled_after h.ghost e (row_of (at_word h w)) r ≡ true) none t));
      }

  module _ (a : At l free h kept w) where
    abbrev y : LinkWord
    y = a.node

    not_here : (x : LinkWord) → IsLinkAt l h x → x ≢ y → place_of l x ≢ w
    not_here x lx ne e = ne (place_one l free h kept x y lx a.link (e ∙ sym a.here))

    by_settle : Settled c h.ghost (word_in l h) (put_at (shadow_in l h) y (word_in l h y)) (put_at (entry_in l h) y None) m (entry_in l h y)
        (row_of (word_in l h y))
    by_settle = settle c h.ghost (word_in l h) (shadow_in l h) (entry_in l h) m kept.chained y a.link
        (put_at (shadow_in l h) y (word_in l h y)) (put_changed (shadow_in l h) y (word_in l h y))
        (put_at (entry_in l h) y None) (put_changed (entry_in l h) y None)

    new_agrees : (x : LinkWord) → IsLinkAt l h x → shadow_in l k x ≡ put_at (shadow_in l h) y (word_in l h y) x
    new_agrees x lx = elim (cases_word x y) [
      | inl e ↦ set_here (place_of l x) (ap (place_of l) e ∙ a.here) ∙ ap (at_word h) (sym a.here)
          ∙ sym (pick_here x y (word_in l h y) (shadow_in l h x) (cases_word x y) e)
      | inr ne ↦ set_off (place_of l x) (not_here x lx ne) ∙ sym (pick_there x y (word_in l h y) (shadow_in l h x) (cases_word x y) ne)
    ]

    rest_agrees : (x : LinkWord) → IsLinkAt l h x → entry_in l k x ≡ put_at (entry_in l h) y None x
    rest_agrees x lx = elim (cases_word x y) [
      | inl e ↦ settled_here h.progress w (place_of l x) o refl (ap (place_of l) e ∙ a.here)
          ∙ sym (pick_here x y None (entry_in l h x) (cases_word x y) e)
      | inr ne ↦ settled_off h.progress w (place_of l x) o (not_here x lx ne) ∙ sym (pick_there x y None (entry_in l h x) (cases_word x y) ne)
    ]

    at_link : GivesSettled
    at_link = record {
      answers = subst (λ v. IsAnswered m (waits_at h v)) a.here by_settle.answers;
      chained = subst (λ v. Chained c (settled_after h.ghost (waits_at h v) (row_of (at_word h v))) (word_in l h) (shadow_in l k) (entry_in l k)
          (map_with m (waits_at h v))) a.here
          (heap-agrees c (word_in l h) (put_at (shadow_in l h) y (word_in l h y)) (word_in l h) (shadow_in l k) (λ x lx. refl) new_agrees
          (settled_after h.ghost (entry_in l h y) (row_of (word_in l h y))) (put_at (entry_in l h) y None) (entry_in l k) (map_with m (entry_in l h y))
          rest_agrees by_settle.chained);
      joining = λ r lr f t. subst (λ v. fin.get (map_with m (waits_at h v)) (c.key r) ≡ Some (c.value r)) a.here
          (joins c h.ghost (word_in l h) (shadow_in l h) (entry_in l h) m kept.chained y a.link r f
          (subst (λ v. settled_after h.ghost (waits_at h v) (row_of (at_word h v)) r ≡ true) (sym a.here) t));
    }

  settling : GivesSettled
  settling = elim (at_word_or l free h kept w) [ inl a ↦ at_link a | inr a ↦ outside a ]

  same_map : content_of k ≡ map_with m o
  same_map = settled_map h.opening.content h.progress w o

  pub kept_written : Kept l free k
  kept_written = record {
    accepted = kept.accepted;
    pool = kept.pool;
    words = kept.words;
    shadows = length-set h.shadows w (at_word h w) ∙ kept.shadows;
    opened = kept.opened;
    apart = kept.apart;
    given = kept.given;
    bare = λ v reached. kept.bare v (record { within = reached.within; given = reached.given; ours = reached.ours });
    untagged = λ v b. elim (cases_eq v w) [ inl e ↦ ap is_tagged (set_here v e) ∙ bare | inr ne ↦ ap is_tagged (set_off v ne) ∙ kept.untagged v b ];
    keys = λ r lr. still_solid (row_word_of l r 0) (kept.keys r lr);
    values = λ r lr v. still_solid (value_word_of l r) (kept.values r lr v);
    small = kept.small;
    stays = kept.stays;
    grown = λ r g. insert_settled h.progress w (key_in l h.words r) (kept.grown r g);
    elsewhere = λ v a. elim (cases_eq v w) [
      | inl e ↦ settled_here h.progress w v o refl e
      | inr ne ↦ settled_off h.progress w v o ne ∙ kept.elsewhere v a
    ];
    legal = settled_legal h.opening.content h.progress w o kept.legal settling.answers;
    chained = subst (Chained c ghost_after (word_in l h) (shadow_in l k) (entry_in l k)) (sym same_map) settling.chained;
  }

  pub later_written : IsAhead h w → Later l None h k
  later_written ahead = record {
    opening = refl;
    given = λ r g. g;
    settled = λ r s. grown_after h.ghost o (row_of (at_word h w)) r s;
    updates = (option_to_list o, settled_list h.progress w o);
    keys = λ r lr. refl;
    values = λ r lr v. refl;
    word = λ x lx. inl refl;
    shadow = λ x lx. elim (cases_eq (place_of l x) w) [
      | inl e ↦ inr (record { ahead = subst (IsAhead h) (sym e) ahead; now = set_here (place_of l x) e ∙ ap (at_word h) (sym e) })
      | inr ne ↦ inl (set_off (place_of l x) ne)
    ];
    joins = λ r lr f t. ap (λ s. fin.get s (key_in l h.words r)) same_map ∙ settling.joining r lr f t;
    named = λ x lx v u t. absurd (both_ways (is_marked (word_in l h x)) u t);
  }

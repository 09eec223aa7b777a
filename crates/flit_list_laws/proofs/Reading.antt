-- What a load adds to what a call knows.
use Rattle.std.proofs.Common.{◌≡◌, ℕ, ◌≤◌, false, List, length, inl, inr, refl, sym, ap, ◌∙◌, subst}
use Rattle.flit_words.specs.declared.layouts.Layout.{Layout}
use Rattle.flit_words.specs.Layouts.{head_of_key}
use Rattle.flit_words.specs.Words.{bare_of}
use Rattle.flit_model.specs.Maps.{key_of}
use Rattle.flit_pv.specs.declared.v_loads.VLoading.TheVariants.{Has as V_has}
use Rattle.flit_pv.specs.VLoads.{HeldVLoad}
use Rattle.flit_runs.specs.Worlds.{HasSeen}
use Rattle.flit_crew.specs.Heaps.{at_word}
use Rattle.flit_crew.specs.Crews.{Who}
use Rattle.flit_list_heap.specs.Links.{LinkWord, Head as Head_word, Next as Next_word, bucket_of, place_of, is_marked}
use Rattle.flit_list_heap.specs.Keeping.{ListHeap, IsLinked, IsLinkAt, rows_at, word_in, Kept}
use Rattle.flit_list_heap.specs.Seeing.{Saw, Gone}
use Rattle.flit_list_heap.proofs.Seen.{saw_load, gone_load, here_load, not_mine_load}
use Rattle.flit_list_laws.specs.Walks.{Walk}
use Rattle.flit_list_laws.specs.Knowing.{unsure, row_after, IsFact, IsGone, IsRow, Stands, KnowsHead, KnowsNext, KnowsKey, KnowsGet}
use Rattle.flit_list_laws.specs.Loads.{HasLoaded, HeadsAreRead, NextsAreRead, KeysAreRead, ValuesAreRead}
use Rattle.flit_list_laws.proofs.Lasting.{zero_some, leads_linked}
use Rattle.flit_list_laws.proofs.Growing as growing

module _ (l : Layout) (free : List ℕ) (h : ListHeap) (kept : Kept l free h) (you : Who)
    (early : you.first ≤ length h.progress.settled) where
  abbrev key : ℕ
  key = key_of you.call

  -- the load of a link word
  loaded : (x : LinkWord) (raw : ℕ) → IsLinkAt l h x → bucket_of (rows_at l h) x ≡ head_of_key l key → bare_of raw ≡ word_in l h x →
      HasSeen you.seen (place_of l x) raw → IsFact l h you (unsure x raw)
  loaded x raw m b e s = record { saw = subst (Saw l h key x) (sym e) (saw_load l free h kept key x m b); held = s }

  passed : (x : LinkWord) (raw : ℕ) → IsLinkAt l h x → bucket_of (rows_at l h) x ≡ head_of_key l key → bare_of raw ≡ word_in l h x →
      is_marked (bare_of raw) ≡ false → IsGone l h you (unsure x raw)
  passed x raw m b e u = subst (λ v. Gone l h you.first key x v) (sym e)
      (gone_load l free h kept you.first key x early m b (ap is_marked (sym e) ∙ u))

  row_seen : (r raw : ℕ) → bare_of raw ≡ word_in l h (Next_word r) → is_marked (bare_of raw) ≡ false → IsRow l h you r
  row_seen r raw e u = record {
    here = here_load l free h kept you.first key r early (ap is_marked (sym e) ∙ u);
    mine = not_mine_load l free h kept you.name r (ap is_marked (sym e) ∙ u);
  }

  head_link : IsLinkAt l h (Head_word (head_of_key l key))
  head_link = kept.chained.buckets key

  head : (m : HeldVLoad) (raw : ℕ) → HasLoaded h you m raw → KnowsHead l h you m → KnowsHead l h you (record m { at = V_has raw })
  head m raw s f =
      let x : LinkWord = Head_word (head_of_key l key) in
      let e : bare_of raw ≡ word_in l h x = s.0 ∙ ap (at_word h) f.word in record {
        alone = f.alone;
        word = f.word;
        read = (
          loaded x raw head_link refl e (subst (λ w. HasSeen you.seen w raw) f.word s.1),
          passed x raw head_link refl e (ap is_marked e ∙ (kept.chained.word_form x head_link).headed tt),
        );
      }

  next_link : (w : Walk) → Stands l h you w → 1 ≤ row_after w → IsLinked l h (row_after w)
  next_link w s some = leads_linked l h key w.link.word (bare_of w.link.raw) s.spot.saw some

  bucket_after : (w : Walk) → Stands l h you w → 1 ≤ row_after w → bucket_of (rows_at l h) (Next_word (row_after w)) ≡ head_of_key l key
  bucket_after w s some = elim s.spot.saw.form.leads [
    | inl z ↦ absurd (zero_some (row_after w) z some)
    | inr f ↦ f.bucket ∙ s.spot.saw.bucket
  ]

  next : (w : Walk) (m : HeldVLoad) (raw : ℕ) → HasLoaded h you m raw → KnowsNext l h you w m → KnowsNext l h you w (record m { at = V_has raw })
  next w m raw s f =
      let x : LinkWord = Next_word (row_after w) in
      let e : bare_of raw ≡ word_in l h x = s.0 ∙ ap (at_word h) f.word in
      let m : IsLinkAt l h x = next_link w f.stands f.some in
      let b : bucket_of (rows_at l h) x ≡ head_of_key l key = bucket_after w f.stands f.some in record {
        alone = f.alone;
        stands = f.stands;
        some = f.some;
        gone = f.gone;
        word = f.word;
        read = (loaded x raw m b e (subst (λ v. HasSeen you.seen v raw) f.word s.1), λ u. (passed x raw m b e u, row_seen (row_after w) raw e u));
      }

pub read_head : HeadsAreRead
read_head l free h me you m raw kept early further s f = head l free h kept you (subst (λ n. n ≤ length h.progress.settled) (sym further.first) early) m raw s
    (subst (λ w. KnowsHead l h w m) (growing.same_worker me you further)
    (growing.knows_head l h me you.needs you.seen you.private further.needs further.seen further.private m f))

pub read_next : NextsAreRead
read_next l free h me you w m raw kept early further s f = next l free h kept you (subst (λ n. n ≤ length h.progress.settled) (sym further.first) early) w m
    raw s
    (subst (λ v. KnowsNext l h v w m) (growing.same_worker me you further)
    (growing.knows_next l h me you.needs you.seen you.private further.needs further.seen further.private w m f))

pub read_key : KeysAreRead
read_key l free h me you w n m raw kept further s f =
    let g : KnowsKey l h you w n m = subst (λ v. KnowsKey l h v w n m) (growing.same_worker me you further)
    (growing.knows_key l h me you.needs you.seen you.private further.needs further.seen further.private w n m f) in
    record {
      alone = g.alone;
      stands = g.stands;
      next = g.next;
      unsure = g.unsure;
      gone = g.gone;
      behind = g.behind;
      row = g.row;
      word = g.word;
      read = s.0 ∙ ap (at_word h) g.word;
    }

pub read_value : ValuesAreRead
read_value l free h me you w m raw kept further s f =
    let g : KnowsGet l h you w m = subst (λ v. KnowsGet l h v w m) (growing.same_worker me you further)
    (growing.knows_get l h me you.needs you.seen you.private further.needs further.seen further.private w m f) in
    record { sure = g.sure; valued = g.valued; found = g.found; word = g.word; read = s.0 ∙ ap (at_word h) g.word }

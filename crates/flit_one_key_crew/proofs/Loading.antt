-- A call has loaded the head, the row's key or its value; and what it may answer then.
use Rattle.std.proofs.Common.{◌≡◌, ◌≢◌, ℕ, ◌+◌, ◌≤◌, Bool, true, false, List, length, take, drop, Option, Some, None, refl, sym, ◌∙◌, ap, subst, arith, if◌then◌else◌}
use Rattle.std.proofs.lemmas.List.{length-append, length-take-le, take-append-drop}
use Rattle.flit_words.specs.declared.layouts.Layout.{Layout}
use Rattle.flit_words.specs.Words.{version_of, value_of, bare_of}
use Rattle.flit_model.specs.Maps.{reply_of, map_after_all, key_of}
use Rattle.flit_model.specs.declared.calls.Call.{Call}
use Rattle.flit_model.specs.declared.calls.Reply.{Reply}
use Rattle.flit_place.specs.Tags.{Place}
use Rattle.flit_place.proofs.WordTags.{version-bare}
use Rattle.flit_runs.specs.Soundness.{Needs}
use Rattle.flit_crew.specs.Machines.{ToRead, HasRead as Part_has_read, part_of, machine_takes, working_in}
use Rattle.flit_crew.specs.Heaps.{at_word}
use Rattle.flit_crew.specs.Crews.{Who, IsFurther}
use Rattle.flit_crew.specs.Obligations.{HasRead_so}
use Rattle.flit_one_key.specs.Operations.{At, Head, Key, Value, Row, Words, RowValue, Link, Ends, Rests}
use Rattle.flit_one_key.specs.Steps.{key_word, value_word, links_none}
use Rattle.flit_one_key_crew.specs.OneKeyCrew.{map_if, linked_after}
use Rattle.flit_one_key_crew.specs.OneKeyAnatomy.{machine_at, with_machine_at}
use Rattle.flit_one_key_crew.specs.OneKeyCrew.{Words_of, row_key, row_value, linked_first, version_first, updates, IsLeft, IsHead, Saw, IsRight, HeadKnows, WordKnows, LinkKnows, KnowsAt, Kept}
use Rattle.flit_one_key_crew.proofs.Stories.{story_leads, answer_by, answers_found, has_key, has_none, has_other}
use Rattle.flit_one_key_crew.proofs.Knowing.{value_bare, seen_links, seen_none, carries_further, Carries, bare, saw, found}

module _ (l : Layout) (free : List ℕ) (h : Words_of) (is : Kept l free h) where
  settled_few : length h.progress.settled ≤ length (updates h)
  settled_few = less (length h.progress.settled) (length (Rattle.flit_structure.specs.Moments.waiting_updates h.progress)) (length (updates h))
      (length-append h.progress.settled (Rattle.flit_structure.specs.Moments.waiting_updates h.progress))
    where
      less : (a b c : ℕ) → c ≡ a + b → a ≤ c
      less a b c e = omega (arith, e)

  -- ---- loads

  module _ (me you : Who) (f : IsFurther me you) (since : me.first ≤ length h.progress.settled) (call : Call) where
    c : Carries l h h me you
    c = carries_further l h me you f

    saw_now : (raw : ℕ) → bare_of raw ≡ at_word h 0 → Needs you.needs 0 (version_of raw) → Saw l h you call raw
    saw_now raw same needed = record {
      index = length (updates h);
      within = least (length (updates h));
      left = record {
        counts = sym (version-bare raw) ∙ ap version_of same ∙ is.head.counts;
        links = sym (value_bare raw) ∙ ap value_of same ∙ is.head.links;
      };
      since = subst (λ n. n ≤ length (updates h)) (sym f.first) (through me.first (length h.progress.settled) (length (updates h)) since settled_few);
      needed = needed;
    }
      where
        least : (n : ℕ) → n ≤ n
        least n = omega arith

        through : (a b c : ℕ) → a ≤ b → b ≤ c → a ≤ c
        through a b c h i = omega (arith, h, i)

    word_now : (word raw it value : ℕ) → bare_of raw ≡ at_word h word → word ≡ it → value_of (at_word h it) ≡ value → value_of raw ≡ value
    word_now word raw it value same here is = sym (value_bare raw) ∙ ap value_of same ∙ ap (λ w. value_of (at_word h w)) here ∙ is

    pub reads_at : (p : Place) (reply : Reply) (at : At) (told word raw : ℕ) → bare_of raw ≡ at_word h word → part_of (machine_at at) ≡ ToRead word →
        part_of (machine_takes p free (machine_at at) told) ≡ Part_has_read word raw →
        HasRead_so (working_in (machine_takes p free (machine_at at) told)) you word raw →
        KnowsAt l h me call reply at → KnowsAt l h you call reply (with_machine_at at (machine_takes p free (machine_at at) told))
    reads_at p reply (Head m) told word raw same was now so s =
        let here : word ≡ 0 = subst (HeadKnows l h me call) was s.1 in (
          bare l h h me you c call s.0,
          subst (HeadKnows l h you call) (sym now)
              (saw_now raw (same ∙ ap (at_word h) here) (subst (λ w. Needs you.needs w (version_of raw)) here so)),
        )
    reads_at p reply (Key head m) told word raw same was now so s =
        let here : word ≡ key_word l = subst (WordKnows (key_word l) (row_key l h)) was s.3 in (
          bare l h h me you c call s.0,
          saw l h h me you c call head s.1,
          s.2,
          subst (WordKnows (key_word l) (row_key l h)) (sym now)
              (word_now word raw (key_word l) (row_key l h) same here refl),
        )
    reads_at p reply (Value m) told word raw same was now so s =
        let here : word ≡ value_word l = subst (WordKnows (value_word l) (row_value l h)) was s.3 in (
          (s.0.0, found l h h me you c call s.0.0 s.0.1),
          s.1,
          s.2,
          subst (WordKnows (value_word l) (row_value l h)) (sym now)
              (word_now word raw (value_word l) (row_value l h) same here (sym (ap (λ b. if b then value_of (at_word h (value_word l)) else 0) s.1))),
        )
    reads_at p reply (Row head m) told word raw same was now so s = absurd (cc)
    reads_at p reply (Words head m) told word raw same was now so s = absurd (cc)
    reads_at p reply (RowValue head m) told word raw same was now so s = absurd (cc)
    reads_at p reply (Link m) told word raw same was now so s = absurd (subst (LinkKnows l h me call m) was s.1)
    reads_at p reply (Ends m) told word raw same was now so s = absurd (cc)
    reads_at p reply (Rests hand) told word raw same was now so s = absurd s

  -- ---- answers of a call that has loaded the head

  module _ (me : Who) (call : Call) (head : ℕ) (s : Saw l h me call head) where
    abbrev linked : Bool
    linked = linked_after (linked_first h) s.index

    left : map_after_all h.opening.content (take s.index (updates h)) ≡ map_if linked (row_key l h) (row_value l h)
    left = ap (λ m. map_after_all m (take s.index (updates h))) is.content
        ∙ (story_leads (row_key l h) (row_value l h) (linked_first h) (take s.index (updates h)) (drop s.index (updates h))
        (subst (Rattle.flit_one_key_crew.specs.OneKeyCrew.IsStory (row_key l h) (row_value l h) (linked_first h))
        (sym (take-append-drop s.index (updates h))) is.story)).content
        ∙ ap (λ n. map_if (linked_after (linked_first h) n) (row_key l h) (row_value l h)) (length-take-le s.index (updates h) s.within)

    reads_so : (looked : Option ℕ) → Rattle.std.specs.FinMap.get (map_if linked (row_key l h) (row_value l h)) (key_of call) ≡ looked → (reply : Reply) →
        reply ≡ answer_by call looked → IsRight l h me call reply
    reads_so looked got reply e = record {
      index = s.index;
      within = s.within;
      since = s.since;
      needed = subst (Needs me.needs 0) s.left.counts s.needed;
      right = e ∙ answers_found (map_if linked (row_key l h) (row_value l h)) looked call got ∙ ap (λ m. reply_of m call) (sym left);
    }

    pub reads_found : row_key l h ≡ key_of call → links_none head ≡ false → (reply : Reply) → reply ≡ answer_by call (Some (row_value l h)) →
        IsRight l h me call reply
    reads_found key some = reads_so (Some (row_value l h))
        (has_key linked (row_key l h) (row_value l h) (key_of call) (seen_links l h me call head s some) key)

    pub reads_none : links_none head ≡ true → (reply : Reply) → reply ≡ answer_by call None → IsRight l h me call reply
    reads_none none = reads_so None (has_none linked (row_key l h) (row_value l h) (key_of call) (seen_none l h me call head s none))

    pub reads_other : row_key l h ≢ key_of call → (reply : Reply) → reply ≡ answer_by call None → IsRight l h me call reply
    reads_other other = reads_so None (has_other linked (row_key l h) (row_value l h) (key_of call) other)

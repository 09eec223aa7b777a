-- A worker is hired, and stretches of the list of workers change places.
use Rattle.std.proofs.Common.{◌≡◌, ◌⊎◌, inl, inr, ⊎_elim, ℕ, suc, ◌+◌, ◌-◌, ◌^◌, ◌<◌, ◌≤◌, false, cond, List, [], ◌∷◌, ◌++◌, length, drop, count_by, refl, sym, ◌∙◌, ap, subst, arith}
use Rattle.flit_words.specs.declared.layouts.Layout.{Layout}
use Rattle.flit_words.specs.declared.layouts.Kind.{Kind}
use Rattle.flit_words.specs.declared.layouts.Kind.TheVariants.{List as List_kind, Hash, Tree}
use Rattle.flit_model.proofs.Counting.{count_by-cons, count_by-append}
use Rattle.flit_model.proofs.Elements.{all_weaker}
use Rattle.flit_place.specs.Tags.{Place}
use Rattle.flit_pv.specs.Hands.{first_hand}
use Rattle.flit_rows.specs.Shares.{rows_in}
use Rattle.flit_rows.specs.Taking.{is_past}
use Rattle.flit_runs.specs.Workings.{Idles}
use Rattle.flit_runs.specs.Worlds.{Actor}
use Rattle.flit_structure.specs.declared.workers.Worker.{Worker}
use Rattle.flit_structure.specs.Moments.{Moment, with_workers, hired, made, IsNew}
use Rattle.flit_structure.specs.Lawful.{rows_needed}
use Rattle.flit_structure.proofs.Names.{all_swap, different_swap}
use Rattle.flit_crew.specs.Heaps.{Heap, heap_of}
use Rattle.flit_crew.specs.Anatomies.{own_in, hand_at}
use Rattle.flit_crew.specs.Rows.{times, own_times, own_many}
use Rattle.flit_words.specs.Words.{bare_of}
use Rattle.flit_model.specs.States.{word_at}
use Rattle.flit_crew.specs.Machines.{Tags}
use Rattle.flit_crew.specs.Accounts.{IsAny, IsTight, HasNumber, IsMaker}
use Rattle.flit_crew.specs.Crews.{Crew, Acts, AllAct, Holds, stranger_of}
use Rattle.flit_crew.proofs.Acting.{join_acts}
use Rattle.flit_runs.proofs.Changes.{sound_hires, sound_swap}
use Rattle.flit_crew.proofs.Counting.{workers_few, names_within}

none_spare : (k : Kind) → (rows_needed k ≤ 2) × (rows_in (drop (rows_needed k) (0 ∷ 0 ∷ [])) ≡ [])
none_spare List_kind = (omega arith, refl)
none_spare Hash = (omega arith, refl)
none_spare Tree = (omega arith, refl)

pub same_number : {G Op : Type 0} (c : Crew G Op) (l : Layout) (p : Place) (free : List ℕ) (h : Heap G) (us : List (Worker Op)) (gs : List Actor) →
    AllAct c l p free h us gs → length gs ≡ length us
same_number c l p free h [] [] m = refl
same_number c l p free h [] (g ∷ gs) m = absurd m
same_number c l p free h (u ∷ us) [] m = absurd m
same_number c l p free h (u ∷ us) (g ∷ gs) m = ap suc (same_number c l p free h us gs m.1)

module _ {G Op : Type 0} (c : Crew G Op) (l : Layout) (p : Place) (free : List ℕ) where
  pub hires : (M : Moment Op) (name : ℕ) → 1 ≤ name → name ≤ l.workers → IsNew name M.workers → Holds c l p free M →
      Holds c l p free (with_workers M (hired name ∷ M.workers))
  hires M name least most new holds = record {
    given = holds.given;
    ghost = holds.ghost;
    actors = me ∷ holds.actors;
    opening = holds.opening;
    pool_is = holds.pool_is;
    stranger = holds.stranger;
    outside = holds.outside;
    accepted = holds.accepted;
    pool = holds.pool;
    words = holds.words;
    slots = holds.slots;
    sound = sound_swap p (λ word. false) M.state [] (me ∷ []) (stranger_of holds.stranger ∷ []) holds.actors
        (sound_hires p (λ word. false) M.state (stranger_of holds.stranger ∷ holds.actors) (first_hand name) refl few holds.sound);
    tagged = λ counted word tag. inr (holds.tagged counted word tag);
    kept = holds.kept;
    acts = (mine, holds.acts);
    rows = record {
      dealt = record {
        rows = λ row. zero_first (own_times (λ u. own_in c.anatomy u.doing) row M.workers) (times (λ (u : Worker Op). own_in c.anatomy u.doing) row holds.given)
            _ (holds.rows.dealt.rows row);
        many = zero_first (own_many (λ u. own_in c.anatomy u.doing) M.workers) (length holds.given) _ holds.rows.dealt.many;
      };
      linked = holds.rows.linked;
      within = more M.state.counter (length free) (count_by (λ u. is_past free (hand_at c.anatomy u.doing).ticket) M.workers)
          (count_by (λ u. is_past free (hand_at c.anatomy u.doing).ticket) (hired name ∷ M.workers)) (cond (is_past free 0) 1 0)
          (count_by-cons (λ u. is_past free (hand_at c.anatomy u.doing).ticket) (hired name) M.workers) holds.rows.within;
      past = (λ le. none_below (length free) M.state.counter le, holds.rows.past);
      tight = (none_spare l.kind, holds.rows.tight);
    };
    history = record {
      updates = holds.history.updates;
      rises = holds.history.rises;
      numbered = all_weaker (λ e. IsAny (HasNumber c.anatomy e) M.workers) (λ e. IsAny (HasNumber c.anatomy e) (hired name ∷ M.workers)) (λ e k. inr k)
          (made M.progress) holds.history.numbered;
      waits = λ word e is. let x = holds.history.waits word e is in (x.0, x.1, inr x.2);
    };
    different = (new, holds.different);
  }
    where
      me : Actor
      me = record { at = Idles (first_hand name); needs = []; seen = []; private = [] }

      mine : Acts c l p free (heap_of M holds.given holds.ghost) (hired name) me
      mine = record {
        at = refl;
        name = refl;
        number = refl;
        least = least;
        most = most;
        reached = tt;
        reading = tt;
        mine = tt;
        published = λ q t. refl;
        alone = λ one. record { machine = tt; queued = refl; seen = λ counted. tt };
        doing =
            (refl, refl);
      }

      few : suc (suc (length holds.actors)) < 2 ^ 64 - 1
      few = small (length holds.actors) (length M.workers) l.workers (same_number c l p free (heap_of M holds.given holds.ghost) M.workers holds.actors
          holds.acts)
          (workers_few l.workers (hired name ∷ M.workers) (new, holds.different)
          ((least, most), names_within c l p free (heap_of M holds.given holds.ghost) M.workers holds.actors holds.acts)) holds.accepted.most_worker
        where
          small : (g u w : ℕ) → g ≡ u → suc u ≤ w → w ≤ 64 → suc (suc g) < 2 ^ 64 - 1
          small g u w e i j = omega (arith, e, i, j)

      zero_first : (a b t : ℕ) → a + b ≡ t → (0 + a) + b ≡ t
      zero_first a b t e = omega (arith, e)

      more : (c f p n x : ℕ) → n ≡ x + p → c ≤ f + p → c ≤ f + n
      more c f p n x e i = omega (arith, e, i)

      none_below : (n c : ℕ) → n ≤ 0 → n ≤ c
      none_below n c i = omega (arith, i)

  -- ---- stretches change places

  record Cut (h : Heap G) (a b : List (Worker Op)) (gs : List Actor) : Type 0 where
    left : List Actor
    right : List Actor
    is : gs ≡ left ++ right
    acts_left : AllAct c l p free h a left
    acts_right : AllAct c l p free h b right

  cut : (h : Heap G) (a b : List (Worker Op)) (gs : List Actor) → AllAct c l p free h (a ++ b) gs → Cut h a b gs
  cut h [] b gs m = record { left = []; right = gs; is = refl; acts_left = tt; acts_right = m }
  cut h (u ∷ a) b [] m = absurd m
  cut h (u ∷ a) b (g ∷ gs) m = let r = cut h a b gs m.1 in record {
    left = g ∷ r.left;
    right = r.right;
    is = ap (λ xs. g ∷ xs) r.is;
    acts_left =
        (m.0, r.acts_left);
    acts_right = r.acts_right;
  }

  times_both : (row : ℕ) (a b : List (Worker Op)) → own_times (λ u. own_in c.anatomy u.doing) row (a ++ b) ≡ own_times (λ u. own_in c.anatomy u.doing) row a
      + own_times (λ u. own_in c.anatomy u.doing) row b
  times_both row [] b = zero_plus (own_times (λ u. own_in c.anatomy u.doing) row b)
    where
      zero_plus : (n : ℕ) → n ≡ 0 + n
      zero_plus n = omega arith
  times_both row (u ∷ a) b = longer (times (λ (v : Worker Op). own_in c.anatomy v.doing) row (own_in c.anatomy u.doing)) _ _ _ (times_both row a b)
    where
      longer : (x s i j : ℕ) → s ≡ i + j → x + s ≡ x + i + j
      longer x s i j e = omega (arith, e)

  many_both : (a b : List (Worker Op)) → own_many (λ u. own_in c.anatomy u.doing) (a ++ b) ≡ own_many (λ u. own_in c.anatomy u.doing) a + own_many
      (λ u. own_in c.anatomy u.doing) b
  many_both [] b = zero_plus (own_many (λ u. own_in c.anatomy u.doing) b)
    where
      zero_plus : (n : ℕ) → n ≡ 0 + n
      zero_plus n = omega arith
  many_both (u ∷ a) b = longer (length (own_in c.anatomy u.doing)) _ _ _ (many_both a b)
    where
      longer : (x s i j : ℕ) → s ≡ i + j → x + s ≡ x + i + j
      longer x s i j e = omega (arith, e)

  -- a number that is a sum over the workers doesn't hang on their order
  swapped : (f : List (Worker Op) → ℕ) → ((a b : List (Worker Op)) → f (a ++ b) ≡ f a + f b) → (a x y b : List (Worker Op)) →
      f (a ++ (y ++ (x ++ b))) ≡ f (a ++ (x ++ (y ++ b)))
  swapped f both a x y b = sums (f a) (f x) (f y) (f b) _ _ _ _ _ _ (both a (y ++ (x ++ b))) (both y (x ++ b)) (both x b) (both a (x ++ (y ++ b)))
      (both x (y ++ b)) (both y b)
    where
      sums : (a x y b s t u v w z : ℕ) → s ≡ a + t → t ≡ y + u → u ≡ x + b → v ≡ a + w → w ≡ x + z → z ≡ y + b → s ≡ v
      sums a x y b s t u v w z e d f g i j = omega (arith, e, d, f, g, i, j)

  any_left : {X : Type 0} (P : X → Type 0) (xs ys : List X) → IsAny P xs → IsAny P (xs ++ ys)
  any_left P [] ys h = absurd h
  any_left P (x ∷ xs) ys h = ⊎_elim (λ k. inl k) (λ k. inr (any_left P xs ys k)) h

  any_right : {X : Type 0} (P : X → Type 0) (xs ys : List X) → IsAny P ys → IsAny P (xs ++ ys)
  any_right P [] ys h = h
  any_right P (x ∷ xs) ys h = inr (any_right P xs ys h)

  any_two : {X : Type 0} (P : X → Type 0) (xs ys : List X) → IsAny P (xs ++ ys) → IsAny P xs ⊎ IsAny P ys
  any_two P [] ys h = inr h
  any_two P (x ∷ xs) ys (inl h) = inl (inl h)
  any_two P (x ∷ xs) ys (inr h) = ⊎_elim (λ k. inl (inr k)) (λ k. inr k) (any_two P xs ys h)

  any_swap : {X : Type 0} (P : X → Type 0) (a x y b : List X) → IsAny P (a ++ (x ++ (y ++ b))) → IsAny P (a ++ (y ++ (x ++ b)))
  any_swap P a x y b h = ⊎_elim (λ k. any_left P a (y ++ (x ++ b)) k) (λ k. any_right P a (y ++ (x ++ b))
      (⊎_elim (λ k. any_right P y (x ++ b) (any_left P x b k)) (λ k. ⊎_elim (λ k. any_left P y (x ++ b) k) (λ k. any_right P y (x ++ b) (any_right P x b k))
      (any_two P y b k)) (any_two P x (y ++ b) k))) (any_two P a (x ++ (y ++ b)) h)

  pub orders : (M : Moment Op) (a x y b : List (Worker Op)) → Holds c l p free (with_workers M (a ++ (x ++ (y ++ b)))) →
      Holds c l p free (with_workers M (a ++ (y ++ (x ++ b))))
  orders M a x y b holds = record {
    given = holds.given;
    ghost = holds.ghost;
    actors = one.left ++ (three.left ++ (two.left ++ three.right));
    opening = holds.opening;
    pool_is = holds.pool_is;
    stranger = holds.stranger;
    outside = holds.outside;
    accepted = holds.accepted;
    pool = holds.pool;
    words = holds.words;
    slots = holds.slots;
    sound = sound_swap p (λ word. false) M.state (stranger_of holds.stranger ∷ one.left) two.left three.left three.right
        (subst (λ gs. Rattle.flit_runs.specs.Soundness.IsSound p (λ word. false) (record { state = M.state; workers = stranger_of holds.stranger ∷ gs }))
        (one.is ∙ ap (λ gs. one.left ++ gs) (two.is ∙ ap (λ gs. two.left ++ gs) three.is)) holds.sound);
    tagged = λ counted word tag. any_swap (λ g. Tags word (bare_of (word_at M.state word)) g.at) one.left two.left three.left three.right
        (subst (IsAny (λ g. Tags word (bare_of (word_at M.state word)) g.at))
        (one.is ∙ ap (λ gs. one.left ++ gs) (two.is ∙ ap (λ gs. two.left ++ gs) three.is)) (holds.tagged counted word tag));
    kept = holds.kept;
    acts = join_acts c l p free h a (y ++ (x ++ b)) one.left (three.left ++ (two.left ++ three.right)) one.acts_left
        (join_acts c l p free h y (x ++ b) three.left (two.left ++ three.right) three.acts_left
        (join_acts c l p free h x b two.left three.right two.acts_left three.acts_right));
    rows = record {
      dealt = record {
        rows = λ row. ap (λ n. n + times (λ (u : Worker Op). own_in c.anatomy u.doing) row holds.given)
            (swapped (own_times (λ u. own_in c.anatomy u.doing) row) (times_both row) a x y b) ∙ holds.rows.dealt.rows row;
        many = ap (λ n. n + length holds.given) (swapped (own_many (λ u. own_in c.anatomy u.doing)) many_both a x y b) ∙ holds.rows.dealt.many;
      };
      linked = holds.rows.linked;
      within = subst (λ n. M.state.counter ≤ length free + n) (sym (swapped (count_by (λ u. is_past free (hand_at c.anatomy u.doing).ticket))
          (count_by-append (λ u. is_past free (hand_at c.anatomy u.doing).ticket)) a x y b)) holds.rows.within;
      past = all_swap (λ u. length free ≤ (hand_at c.anatomy u.doing).ticket → length free ≤ M.state.counter) a x y b holds.rows.past;
      tight = all_swap (IsTight c.anatomy l) a x y b holds.rows.tight;
    };
    history = record {
      updates = holds.history.updates;
      rises = holds.history.rises;
      numbered = all_weaker (λ e. IsAny (HasNumber c.anatomy e) (a ++ (x ++ (y ++ b)))) (λ e. IsAny (HasNumber c.anatomy e) (a ++ (y ++ (x ++ b))))
          (λ e k. any_swap (HasNumber c.anatomy e) a x y b k) (made M.progress) holds.history.numbered;
      waits = λ word e is. let w = holds.history.waits word e is in (w.0, w.1, any_swap (IsMaker c.anatomy word e) a x y b w.2);
    };
    different = different_swap a x y b holds.different;
  }
    where
      h : Heap G
      h = heap_of M holds.given holds.ghost

      one : Cut h a (x ++ (y ++ b)) holds.actors
      one = cut h a (x ++ (y ++ b)) holds.actors holds.acts

      two : Cut h x (y ++ b) one.right
      two = cut h x (y ++ b) one.right one.acts_right

      three : Cut h y b two.right
      three = cut h y b two.right two.acts_right

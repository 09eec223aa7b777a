-- A list or a hash table meets each obligation of the crew.
use Rattle.std.proofs.Common.{◌≡◌, ◌≢◌, ℕ, ◌+◌, ◌*◌, ◌<◌, ◌≤◌, Bool, true, false, List, [], length, Option, Some, None, refl, sym, ◌∙◌, ap, subst, arith, if◌then◌else◌}
use Rattle.flit_words.specs.declared.layouts.Layout.{Layout}
use Rattle.flit_words.specs.declared.layouts.Kind.{Kind}
use Rattle.flit_words.specs.declared.layouts.Kind.TheVariants.{List as List_kind, Hash, Tree as Tree_kind}
use Rattle.flit_words.specs.Layouts.{words_of, parts_of, last_row_of, head_of_key, least_buckets}
use Rattle.flit_words.specs.Words.{version_of, bare_of}
use Rattle.flit_model.specs.declared.events.Event.TheVariants.{Load}
use Rattle.flit_model.specs.declared.calls.Call.{Call}
use Rattle.flit_place.specs.Tags.{Place, IsSlot}
use Rattle.flit_pv.specs.declared.hands.Hand.{Hand}
use Rattle.flit_pv.specs.Exchanges.{HeldExchange}
use Rattle.flit_pv.specs.VLoads.{v_load_started}
use Rattle.flit_rows.specs.Taking.{take_taken}
use Rattle.flit_runs.specs.Workings.{Exchanges, ToVLoad, leaves}
use Rattle.flit_runs.specs.Worlds.{IsAway}
use Rattle.flit_runs.specs.Soundness.{IsNext, Needs}
use Rattle.flit_structure.specs.Moments.{Opening, Moment, first_moment}
use Rattle.flit_structure.specs.Meanings.{IsServed, key_of}
use Rattle.flit_structure.specs.Lawful.{IsOpening}
use Rattle.flit_crew.specs.Machines.{Machine, Works, part_of, exchange_part, ToWin, working_in, has_ended, machine_takes, hand_in}
use Rattle.flit_crew.specs.Heaps.{heap_of, at_word, at_shadow, waits_at, won, IsOpen, AreOld, AreResting}
use Rattle.flit_crew.specs.Accounts.{AreTight}
use Rattle.flit_crew.specs.Crews.{Who, IsFurther, Goes, Facts, OwnsRows, IsCoherent, left, effect_of, links_of}
use Rattle.flit_crew.specs.Obligations.{Keeps, WonSo, IsAfter, OpensSo, HasRead_so}
use Rattle.flit_crew.proofs.Going.{leaves_same}
use Rattle.flit_list_steps.specs.Operations.{HeldOp}
use Rattle.flit_list_steps.specs.Steps.{with_search, with_number}
use Rattle.flit_list_heap.specs.Links.{LinkWord, Head as Head_word}
use Rattle.flit_list_heap.specs.Keeping.{ListHeap, Kept, Later}
use Rattle.flit_list_heap.proofs.Writing.{ghost_after, kept_written, later_written}
use Rattle.flit_list_heap.proofs.Blinding as blinding
use Rattle.flit_list_heap.proofs.Recovering.{recovers}
use Rattle.flit_list_heap.proofs.Places.{link_open}
use Rattle.flit_list_heap.proofs.Opening.{opens}
use Rattle.flit_list_laws.specs.Walks.{Loaded, Walk}
use Rattle.flit_list_laws.specs.ListAnatomy.{machine_at, with_machine_at, with_machine, effects_at, past_at, storing_at, list_anatomy}
use Rattle.flit_list_laws.specs.ListCrew.{KnowsAt, Knows, list_crew, IsOfLists}
use Rattle.flit_list_laws.specs.Laws.{ListsKeep}
use Rattle.flit_list_laws.proofs.Putting.{put_at, put_effects_at, put_past_at, put_storing_at}
use Rattle.flit_list_laws.proofs.Others as others
use Rattle.flit_list_laws.proofs.Going as going
use Rattle.flit_list_laws.proofs.Cohering.{coheres_at}
use Rattle.flit_list_laws.proofs.Storing.{stored_at}
use Rattle.flit_list_laws.proofs.Answering.{answers_at}
use Rattle.flit_list_laws.proofs.Persisting.{writes_at}
use Rattle.flit_list_laws.proofs.Winning.{wins_at}
use Rattle.flit_list_laws.proofs.Resumes.{goes_at}

head_below : (l : Layout) (k : ℕ) → 1 ≤ l.buckets → head_of_key l k < l.buckets
head_below l k some = omega arith

least : (k : Kind) (b : ℕ) → (k ≡ Tree_kind → ⊥) → least_buckets k ≤ b → 1 ≤ b
least List_kind b o h = h
least Hash b o h = h
least Tree_kind b o h = absurd (o refl)

more_words : (a b c d : ℕ) → a < b → a < b + c + d
more_words a b c d i = omega (arith, i)

-- a walk that stands nowhere yet
no_link : Loaded
no_link = record { word = Head_word 0; raw = 0; sure = false }

no_walk : Walk
no_walk = record { back = None; link = no_link }

module _ (l : Layout) (lists : IsOfLists l) (p : Place) (free : List ℕ) where
  head_within : (k : ℕ) → head_of_key l k < words_of l
  head_within k = more_words (head_of_key l k) l.buckets (parts_of l.kind * last_row_of l) (if l.values then last_row_of l else 0)
      (head_below l k (least l.kind l.buckets lists.kind lists.accepted.least_bucket))

  none_private : (me : Who) → me.private ≡ [] → (w : ℕ) → IsAway me.private w
  none_private me none w = subst (λ xs. IsAway xs w) (sym none) tt

  first_you : (h : ListHeap) (me you : Who) → IsFurther me you → me.first ≤ length h.progress.settled → you.first ≤ length h.progress.settled
  first_you h me you further early = subst (λ n. n ≤ length h.progress.settled) (sym further.first) early

  steady : (h : ListHeap) (me you : Who) (op : HeldOp) (m : Machine) → IsAfter (list_crew l p free) l p free op m → IsFurther me you →
      part_of m ≡ part_of (machine_at op.at) → Knows l h me op → Knows l h you (with_machine op m)
  steady h me you op m after further same f = record {
    first = first_you h me you further f.first;
    served = subst (IsServed l) (sym further.call) f.served;
    walk = f.walk;
    next = f.next;
    at = subst (λ x. KnowsAt l h you op.reply op.path f.walk f.next (with_machine_at op.at x)) (sym after.1)
        (going.steady_at l p free h you op.reply op.path f.walk f.next op.at after.0 (ap part_of (sym after.1) ∙ same)
        (others.more_at l h me you further op.reply op.path f.walk f.next op.at f.at));
  }

  coherent : (h : ListHeap) (me : Who) (op : HeldOp) (m : Machine) → IsAfter (list_crew l p free) l p free op m → op.call ≡ me.call →
      OwnsRows (list_crew l p free) l p free h (with_machine op m) m → Knows l h me (with_machine op m) →
      IsCoherent (list_crew l p free) l p free (with_machine op m) ((list_crew l p free).anatomy.resumed op m)
  coherent h me op m after same owns f =
      let at_now : machine_at (with_machine_at op.at m) ≡ m =
      subst (λ x. machine_at (with_machine_at op.at x) ≡ x) (sym after.1) (put_at p free op.at after.0) in
      coheres_at l lists p free h me op.call op.reply op.path same f.walk f.next (with_machine_at op.at m)
      (subst (λ x. AreTight l (hand_in x).spare) (sym at_now) owns.tight) f.at

  -- all of them
  pub keeps : Keeps (list_crew l p free) l p free
  keeps = record {
    lasts = λ h k who me op was now later other stayed old f. others.lasts l p free h k who me op now later other stayed f;
    settles = λ h w is o ahead. (
      ghost_after l free h is w o.within (is.bare w o),
      kept_written l free h is w o.within (is.bare w o),
      later_written l free h is w o.within (is.bare w o) ahead,
    );
    blind = λ h k who is a. (blinding.kept_blind l free h k is a, blinding.later_blind l free h k is a who);
    same = λ h who. blinding.same l h who;
    awake = λ hand call served. (Load (head_of_key l (key_of call)), refl, head_within (key_of call));
    begins = λ h me hand is served early none. record {
      first = early;
      served = served;
      walk = no_walk;
      next = no_link;
      at = record { alone = none_private me none; word = refl; read = tt };
    };
    starts = λ h me hand is served. record {
      task = ToVLoad (head_of_key l (key_of me.call));
      now = with_search (with_number hand);
      alike = record { name = refl; number = refl; queue = refl; ticket = refl; queued = refl };
      may = link_open l free h is (Head_word (head_of_key l (key_of me.call))) (is.chained.buckets (key_of me.call));
      none = refl;
      at = refl;
      going = refl;
      call = refl;
      is_for = tt;
    };
    begun_own = λ hand call. refl;
    begun_spare = λ hand call. refl;
    begun_deed = λ hand call. refl;
    put = λ op m after. subst (λ x. machine_at (with_machine_at op.at x) ≡ x) (sym after.1) (put_at p free op.at after.0);
    put_call = λ op m after. refl;
    put_effects = λ op m after. subst (λ x. effects_at (with_machine_at op.at x) ≡ effects_at op.at) (sym after.1) (put_effects_at p free op.at after.0);
    put_past = λ op m after. subst (λ x. past_at op.call op.reply (with_machine_at op.at x) ≡ past_at op.call op.reply op.at) (sym after.1)
        (put_past_at p free op.call op.reply op.at after.0);
    put_reply = λ op m after. refl;
    put_storing = λ op m after. subst (λ x. storing_at l op.call op.path (with_machine_at op.at x) ≡ storing_at l op.call op.path op.at) (sym after.1)
        (put_storing_at l p free op.call op.path op.at after.0);
    more = λ h me you op is further f. others.more l h me you op further f;
    steady = λ h me you op m after is further same f. steady h me you op m after further same f;
    reads = λ h me you op m word raw after is early old further open_word same was now so f. record {
      first = first_you h me you further early;
      served = subst (IsServed l) (sym further.call) f.served;
      walk = f.walk;
      next = f.next;
      at = subst (λ x. KnowsAt l h you op.reply op.path f.walk f.next (with_machine_at op.at x)) (sym after.1)
          (going.reads_at l p free h is me you early further op.reply op.path f.walk f.next word raw same op.at after.0 was (ap part_of (sym after.1) ∙ now)
          (subst (λ x. HasRead_so (working_in x) you word raw) after.1 so) f.at);
    };
    resumes = λ h me op m after is served most named early old same ended facts owns f.
        let at_now : machine_at (with_machine_at op.at m) ≡ m =
        subst (λ x. machine_at (with_machine_at op.at x) ≡ x) (sym after.1) (put_at p free op.at after.0) in
        subst (λ x. Goes (list_crew l p free) l p free h (left (list_crew l p free) l p free me (working_in x)) (leaves (working_in x))
        ((list_crew l p free).anatomy.resumed op m)) at_now
        (goes_at l lists p free h is me early served most op.call op.reply op.path same f.walk f.next (with_machine_at op.at m)
        (subst (λ x. has_ended p x ≡ true) (sym at_now) ended)
        (subst (Facts (list_crew l p free) l p free h me (with_machine op m)) (sym at_now) facts)
        (subst (OwnsRows (list_crew l p free) l p free h (with_machine op m)) (sym at_now) owns)
        (subst (λ x. (hand_in x).name ≡ me.name) (sym at_now) (sym (leaves_same (working_in m)).name ∙ named)) f.at);
    coherent = λ h me op m after is same ended owns f. coherent h me op m after same owns f;
    wins = λ h me you op m is early further same at part persistent none open_word waits word_is shadow_is next needed rests f.
        wins_at l lists p free h is me you early further f.served persistent (none_private me none) op.call op.reply op.path same f.walk f.next m part
        word_is next needed op.at at rests f.at;
    loses = λ h me you op m n found after is further at part lost none f. record {
      first = first_you h me you further f.first;
      served = subst (IsServed l) (sym further.call) f.served;
      walk = f.walk;
      next = f.next;
      at = going.loses_at l p free h you op.reply op.path f.walk f.next m n found part lost (λ w. further.private w (none_private me none w)) op.at at
          (others.more_at l h me you further op.reply op.path f.walk f.next op.at f.at);
    };
    writes = λ h me you op m is further at stage back f. record {
      first = first_you h me you further f.first;
      served = subst (IsServed l) (sym further.call) f.served;
      walk = f.walk;
      next = f.next;
      at = writes_at l free h is you op.reply op.path f.walk f.next m stage back op.at at
          (others.more_at l h me you further op.reply op.path f.walk f.next op.at f.at);
    };
    recovers = λ h is. recovers l free h is;
    stores = λ h me you op m w to after is further private mine first last f. record {
      first = first_you h me you further f.first;
      served = subst (IsServed l) (sym further.call) f.served;
      walk = f.walk;
      next = f.next;
      at = subst (λ x. KnowsAt l (Rattle.flit_crew.specs.Heaps.stored h w to) you op.reply op.path f.walk f.next (with_machine_at op.at x)) (sym after.1)
          (stored_at l p free h is you (first_you h me you further f.first) w to mine.shut op.call op.reply op.path f.walk f.next op.at after.0 mine.own first last
          (others.more_at l h me you further op.reply op.path f.walk f.next op.at f.at));
    };
    draws = λ h me op m told is at stage f. record {
      first = f.first;
      served = f.served;
      walk = f.walk;
      next = f.next;
      at = going.draws_at l p free h me op.reply op.path f.walk f.next m (take_taken free m told) op.at at f.at;
    };
    answers = λ h me op m is early same at persistent read f. answers_at l free h is me persistent op.reply op.path f.walk f.next op.at m at read f.at;
  }

  -- a lawful opening is one
  pub opens_so : (o : Opening) → free ≡ o.free → IsOpening l o → ((word : ℕ) → word < words_of l → IsSlot p.counted l.slots (p.slot word)) →
      OpensSo (list_crew l p free) l p free o
  opens_so o pool opening slots =
      let so = opens l lists.accepted lists.kind o opening in record {
        opening = opening;
        accepted = lists.accepted;
        pool = pool;
        slots = slots;
        ghost = so.0;
        kept = let M : Moment HeldOp = first_moment l o in subst (λ xs. Kept l xs (heap_of M [] so.0)) (sym pool) so.1;
      }

pub lists_keep : ListsKeep
lists_keep = record {
  keeps = λ l p free lists. keeps l lists p free;
  opens = λ l p free o lists pool opening slots. opens_so l lists p free o pool opening slots;
}

-- The tree meets each obligation of the crew.
use Rattle.std.proofs.Common.{◌≡◌, ℕ, ◌+◌, ◌*◌, ◌<◌, ◌≤◌, true, List, [], length, refl, sym, ◌∙◌, ap, subst, arith}
use Rattle.flit_words.specs.declared.layouts.Layout.{Layout}
use Rattle.flit_words.specs.Layouts.{words_of}
use Rattle.flit_model.specs.declared.events.Event.TheVariants.{Load}
use Rattle.flit_place.specs.Tags.{Place, IsSlot}
use Rattle.flit_rows.specs.Taking.{take_taken}
use Rattle.flit_runs.specs.Workings.{ToLoad, leaves}
use Rattle.flit_runs.specs.Worlds.{IsAway}
use Rattle.flit_structure.specs.Moments.{Opening, Moment, first_moment}
use Rattle.flit_structure.specs.Meanings.{IsServed}
use Rattle.flit_structure.specs.Lawful.{IsOpening}
use Rattle.flit_crew.specs.Machines.{Machine, part_of, working_in, has_ended}
use Rattle.flit_crew.specs.Heaps.{heap_of, stored}
use Rattle.flit_crew.specs.Crews.{Who, IsFurther, Goes, Facts, OwnsRows, left}
use Rattle.flit_crew.specs.Obligations.{Keeps, IsAfter, OpensSo, HasRead_so}
use Rattle.flit_tree_heap.specs.Views.{TreeHeap, IsTreeLayout}
use Rattle.flit_tree_heap.specs.Kept.{IsKept}
use Rattle.flit_tree_heap.proofs.Settling.{settles, same as same_later}
use Rattle.flit_tree_heap.proofs.Sameness.{blind}
use Rattle.flit_tree_heap.proofs.Recovering.{recovers}
use Rattle.flit_tree_heap.proofs.Rows.{words_least}
use Rattle.flit_tree_heap.proofs.Opening.{opens}
use Rattle.flit_tree_knowing.proofs.Loading.{top_open}
use Rattle.flit_tree_steps.specs.Operations.{HeldOp}
use Rattle.flit_tree_steps.specs.Steps.{with_search, with_number}
use Rattle.flit_tree_laws.specs.TreeAnatomy.{machine_at, with_machine_at, with_machine, effects_at, past_at, storing_at}
use Rattle.flit_tree_laws.specs.TreeCrew.{KnowsAt, Knows, tree_crew}
use Rattle.flit_tree_laws.specs.Laws.{TreesKeep}
use Rattle.flit_tree_laws.proofs.Putting.{put_at, put_effects_at, put_past_at, put_storing_at}
use Rattle.flit_tree_laws.proofs.Lasting as lasting
use Rattle.flit_tree_laws.proofs.Growing.{more_at}
use Rattle.flit_tree_laws.proofs.Going as going
use Rattle.flit_tree_laws.proofs.Cohering.{coheres_at}
use Rattle.flit_tree_laws.proofs.Storing.{stored_at}
use Rattle.flit_tree_laws.proofs.Answering.{answers_at}
use Rattle.flit_tree_laws.proofs.Persisting.{writes_at}
use Rattle.flit_tree_laws.proofs.Winning.{wins_at}
use Rattle.flit_tree_laws.proofs.Resumes.{goes_at}

module _ (l : Layout) (layout : IsTreeLayout l) (p : Place) (free : List ℕ) where
  top_within : 4 < words_of l
  top_within = more l.rows (words_of l) (words_least l layout)
    where
      more : (a b : ℕ) → 3 * (a + 5) ≤ b → 4 < b
      more a b i = omega (arith, i)

  none_private : (me : Who) → me.private ≡ [] → (w : ℕ) → IsAway me.private w
  none_private me none w = subst (λ xs. IsAway xs w) (sym none) tt

  first_you : (h : TreeHeap) (me you : Who) → IsFurther me you → me.first ≤ length h.progress.settled → you.first ≤ length h.progress.settled
  first_you h me you further early = subst (λ n. n ≤ length h.progress.settled) (sym further.first) early

  served_you : (me you : Who) → IsFurther me you → IsServed l me.call → IsServed l you.call
  served_you me you further served = subst (IsServed l) (sym further.call) served

  steady : (h : TreeHeap) (me you : Who) (op : HeldOp) (m : Machine) → IsAfter (tree_crew l p free) l p free op m → IsFurther me you →
      part_of m ≡ part_of (machine_at op.at) → Knows l free h me op → Knows l free h you (with_machine op m)
  steady h me you op m after further same f = record {
    first = first_you h me you further f.first;
    served = served_you me you further f.served;
    at = subst (λ x. KnowsAt l free h you op.reply op.path (with_machine_at op.at x)) (sym after.1)
        (going.steady_at l p free h you op.reply op.path op.at after.0 (ap part_of (sym after.1)
        ∙ same) (more_at me you further l free h op.reply op.path op.at f.at));
  }

  -- all of them
  pub keeps : Keeps (tree_crew l p free) l p free
  keeps = record {
    lasts = λ h k who me op was now later other stayed old f. lasting.lasts l p free h k who me op was now later stayed f;
    settles = λ h w is o ahead. settles l free h w is o ahead;
    blind = λ h k who is a. blind l free h k who is a;
    same = λ h who. same_later l free h who;
    awake = λ hand call served. (Load 4, refl, top_within);
    begins = λ h me hand is served early none. record {
      first = early;
      served = served;
      at = record { alone = none_private me none; word = refl; read = tt };
    };
    starts = λ h me hand is served. record {
      task = ToLoad 4;
      now = with_search (with_number hand);
      alike = record { name = refl; number = refl; queue = refl; ticket = refl; queued = refl };
      may = top_open l free h is;
      none = refl;
      at = refl;
      going = refl;
      call = refl;
      is_for = tt;
    };
    begun_own = λ hand call. refl;
    begun_spare = λ hand call. refl;
    begun_deed = λ hand call. refl;
    put = λ op m after. subst (λ x. machine_at (with_machine_at op.at x) ≡ x) (sym after.1) (put_at p free op.at after.0);
    put_call = λ op m after. refl;
    put_effects = λ op m after. subst (λ x. effects_at (with_machine_at op.at x) ≡ effects_at op.at) (sym after.1) (put_effects_at p free op.at after.0);
    put_past = λ op m after. subst (λ x. past_at op.call op.reply (with_machine_at op.at x) ≡ past_at op.call op.reply op.at) (sym after.1)
        (put_past_at p free op.call op.reply op.at after.0);
    put_reply = λ op m after. refl;
    put_storing = λ op m after. subst (λ x. storing_at l op.call op.path (with_machine_at op.at x) ≡ storing_at l op.call op.path op.at) (sym after.1)
        (put_storing_at l p free op.call op.path op.at after.0);
    more = λ h me you op is further f. record {
      first = first_you h me you further f.first;
      served = served_you me you further f.served;
      at = more_at me you further l free h op.reply op.path op.at f.at;
    };
    steady = λ h me you op m after is further same f. steady h me you op m after further same f;
    reads = λ h me you op m word raw after is early old further open_word same was now so f. record {
      first = first_you h me you further early;
      served = served_you me you further f.served;
      at = subst (λ x. KnowsAt l free h you op.reply op.path (with_machine_at op.at x)) (sym after.1)
          (going.reads_at l p free h is you (first_you h me you further early) (served_you me you further f.served) op.reply op.path word raw same op.at after.0
          was (ap part_of (sym after.1) ∙ now) (subst (λ x. HasRead_so (working_in x) you word raw) after.1 so)
          (more_at me you further l free h op.reply op.path op.at f.at));
    };
    resumes = λ h me op m after is served most named early old same ended facts owns f.
        let at_now : machine_at (with_machine_at op.at m) ≡ m =
        subst (λ x. machine_at (with_machine_at op.at x) ≡ x) (sym after.1) (put_at p free op.at after.0) in
        subst (λ x. Goes (tree_crew l p free) l p free h (left (tree_crew l p free) l p free me (working_in x)) (leaves (working_in x))
        ((tree_crew l p free).anatomy.resumed op m)) at_now
        (goes_at l layout p free h is me early served op.call op.reply op.path same (with_machine_at op.at m)
        (subst (λ x. has_ended p x ≡ true) (sym at_now) ended)
        (subst (Facts (tree_crew l p free) l p free h me (with_machine op m)) (sym at_now) facts)
        (subst (OwnsRows (tree_crew l p free) l p free h (with_machine op m)) (sym at_now) owns) f.at);
    coherent = λ h me op m after is same ended owns f. coheres_at l layout p free h me op.call op.reply op.path same (with_machine_at op.at m) f.at;
    wins = λ h me you op m is early further same at part persistent none open_word waits word_is shadow_is next needed rests f.
        wins_at l layout p free h is me you early further f.served persistent (none_private me none) op.call op.reply op.path same m part waits
        word_is shadow_is next needed op.at at rests f.at;
    loses = λ h me you op m n found after is further at part lost none f. record {
      first = first_you h me you further f.first;
      served = served_you me you further f.served;
      at = going.loses_at l p free h you op.reply op.path m n found lost (λ w. further.private w (none_private me none w)) op.at at
          (more_at me you further l free h op.reply op.path op.at f.at);
    };
    writes = λ h me you op m is further at stage back f. record {
      first = first_you h me you further f.first;
      served = served_you me you further f.served;
      at = writes_at l free h you op.reply op.path m stage op.at at (more_at me you further l free h op.reply op.path op.at f.at);
    };
    recovers = λ h is. recovers l free h is;
    stores = λ h me you op m w to after is further private mine first last f. record {
      first = first_you h me you further f.first;
      served = served_you me you further f.served;
      at = subst (λ x. KnowsAt l free (stored h w to) you op.reply op.path (with_machine_at op.at x)) (sym after.1)
          (stored_at l p free h is you (first_you h me you further f.first) (served_you me you further f.served) w to mine.shut op.call op.reply op.path op.at
          after.0 first last (more_at me you further l free h op.reply op.path op.at f.at));
    };
    draws = λ h me op m told is at stage f. record {
      first = f.first;
      served = f.served;
      at = going.draws_at l p free h me op.reply op.path m (take_taken free m told) op.at at f.at;
    };
    answers = λ h me op m is early same at persistent read f. answers_at l free h is me persistent op.reply op.path op.at m at read f.at;
  }

  -- a lawful opening is one
  pub opens_so : (o : Opening) → free ≡ o.free → IsOpening l o → ((word : ℕ) → word < words_of l → IsSlot p.counted l.slots (p.slot word)) →
      OpensSo (tree_crew l p free) l p free o
  opens_so o pool opening slots = record {
    opening = opening;
    accepted = layout.accepted;
    pool = pool;
    slots = slots;
    ghost = tt;
    kept = let M : Moment HeldOp = first_moment l o in subst (λ xs. IsKept l xs (heap_of M [] tt)) (sym pool) (opens l o layout opening);
  }

pub trees_keep : TreesKeep
trees_keep = record {
  keeps = λ l p free layout. keeps l layout p free;
  opens = λ l p free o layout pool opening slots. opens_so l layout p free o pool opening slots;
}

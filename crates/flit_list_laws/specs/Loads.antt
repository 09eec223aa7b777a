-- What a load adds to what a call of a list or a hash table knows.
use Rattle.std.specs.Prelude.{◌≡◌, ℕ, ◌≤◌, List, length}
use Rattle.flit_words.specs.declared.layouts.Layout.{Layout}
use Rattle.flit_words.specs.Words.{bare_of}
use Rattle.flit_pv.specs.declared.v_loads.VLoading.TheVariants.{Has as V_has}
use Rattle.flit_pv.specs.VLoads.{HeldVLoad}
use Rattle.flit_runs.specs.Worlds.{HasSeen}
use Rattle.flit_crew.specs.Heaps.{at_word}
use Rattle.flit_crew.specs.Crews.{Who, IsFurther}
use Rattle.flit_list_heap.specs.Keeping.{ListHeap, Kept}
use Rattle.flit_list_laws.specs.Walks.{Loaded, Walk}
use Rattle.flit_list_laws.specs.Knowing.{KnowsHead, KnowsNext, KnowsKey, KnowsGet}

-- its machine has loaded a word, which it has seen so
abbrev pub HasLoaded : ListHeap → Who → HeldVLoad → ℕ → Type 0
HasLoaded h you m raw = (bare_of raw ≡ at_word h m.word) × HasSeen you.seen m.word raw

abbrev pub HeadsAreRead : Type 0
HeadsAreRead = (l : Layout) (free : List ℕ) (h : ListHeap) (me you : Who) (m : HeldVLoad) (raw : ℕ) → Kept l free h → me.first ≤ length h.progress.settled →
    IsFurther me you → HasLoaded h you m raw → KnowsHead l h me m → KnowsHead l h you (record m { at = V_has raw })

abbrev pub NextsAreRead : Type 0
NextsAreRead = (l : Layout) (free : List ℕ) (h : ListHeap) (me you : Who) (w : Walk) (m : HeldVLoad) (raw : ℕ) → Kept l free h →
    me.first ≤ length h.progress.settled → IsFurther me you → HasLoaded h you m raw → KnowsNext l h me w m → KnowsNext l h you w (record m { at = V_has raw })

abbrev pub KeysAreRead : Type 0
KeysAreRead = (l : Layout) (free : List ℕ) (h : ListHeap) (me you : Who) (w : Walk) (n : Loaded) (m : HeldVLoad) (raw : ℕ) → Kept l free h →
    IsFurther me you → HasLoaded h you m raw → KnowsKey l h me w n m → KnowsKey l h you w n (record m { at = V_has raw })

abbrev pub ValuesAreRead : Type 0
ValuesAreRead = (l : Layout) (free : List ℕ) (h : ListHeap) (me you : Who) (w : Walk) (m : HeldVLoad) (raw : ℕ) → Kept l free h →
    IsFurther me you → HasLoaded h you m raw → KnowsGet l h me w m → KnowsGet l h you w (record m { at = V_has raw })

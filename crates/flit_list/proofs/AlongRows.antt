-- A search that goes along a list: the loads that it asks for next, and what an answer makes of it, whoever makes the loads.
use Rattle.std.proofs.Common.{◌≡◌, ◌≢◌, ℕ, suc, ◌+◌, ◌<◌, ◌≤◌, ◌==◌, nat_lt, Bool, true, false, Option, Some, refl, sym, ◌∙◌, ap, subst, add-zero, arith}
use Rattle.std.proofs.Common.{if◌then◌else◌}
use Rattle.std.proofs.lemmas.Bool.{eq-eqb, eqb-false, ne_eqb, lt-ltb, le-ltb}
use Rattle.flit_words.specs.declared.links.Link.{Link}
use Rattle.flit_words.specs.Words.{value_of}
use Rattle.flit_words.specs.Links.{link_of}
use Rattle.flit_model.specs.declared.calls.Call.{Call}
use Rattle.flit_model.specs.declared.calls.Reply.{Reply}
use Rattle.flit_model.specs.declared.events.Event.TheVariants.{Load}
use Rattle.flit_place.specs.Tags.{Place}
use Rattle.flit_pv.specs.declared.hands.Hand.{Hand}
use Rattle.flit_pv.specs.declared.v_loads.VLoad.{VLoad}
use Rattle.flit_pv.specs.VLoads.{v_load_of, v_load_begun, v_load_started}
use Rattle.flit_structure.specs.Meanings.{Meaning, MayTake, MeanAlike, key_of}
use Rattle.flit_list_steps.specs.declared.operations.LinkWord.{LinkWord}
use Rattle.flit_list_steps.specs.declared.operations.Path.{Path}
use Rattle.flit_list_steps.specs.declared.operations.Goal.{Goal}
use Rattle.flit_list_steps.specs.declared.operations.Goal.TheVariants.{Help as To_help, Found as To_found, Absent as To_absent}
use Rattle.flit_list_steps.specs.Operations.{Next, Key, HeldOp}
use Rattle.flit_list_steps.specs.Steps.{Carried, carried, stands, hand_at, row_of, is_marked, key_word, link_word, loaded}
use Rattle.flit_list_steps.specs.Steps.{with_next, confirms, looks, link_got, key_got, FitsLink}
use Rattle.flit_list_meaning.proofs.Meanings.{lists_mean}
use Rattle.flit_list.specs.declared.lists.List.{List}
use Rattle.flit_list.specs.Lists.{list_of}
use Rattle.flit_list.proofs.Telling.{still_fits}

-- ---- what is asked for, and what an answer makes of it

module _ {P : Type 0} (place_of : P → Place) (s : List P) {M : Meaning HeldOp} (alike : MeanAlike M (list_of place_of s))
    (op : Carried) (hand : Hand) (word : ℕ) where
  abbrev tags : Place
  tags = place_of s.place

  abbrev at_link : HeldOp
  at_link = stands op (Next (v_load_started hand word))

  abbrev at_key : HeldOp
  at_key = stands op (Key (v_load_started hand word))

  asks_link : M.asked at_link ≡ Some (Load word)
  asks_link = alike.asked at_link ∙ (lists_mean s.layout tags s.pool).asks at_link

  asks_key : M.asked at_key ≡ Some (Load word)
  asks_key = alike.asked at_key ∙ (lists_mean s.layout tags s.pool).asks at_key

  takes_link : (raw : ℕ) → M.taken at_link raw ≡ link_got s.layout tags s.pool (record op { path = with_next op.path word raw }) hand raw
  takes_link raw = alike.taken at_link raw ∙ (lists_mean s.layout tags s.pool).takes at_link raw

  takes_key : (raw : ℕ) → M.taken at_key raw ≡ key_got s.layout tags s.pool op hand (value_of raw)
  takes_key raw = alike.taken at_key raw ∙ (lists_mean s.layout tags s.pool).takes at_key raw

  fits_link : (raw : ℕ) → MayTake M at_link raw → FitsLink hand
  fits_link raw may = still_fits place_of s at_link raw (alike.may at_link raw may) refl

-- ---- a call goes on from seat to seat

-- whatever stood at the first seat as the first operation stands at this one as this one, so many events later
pub record Follows {Run Seat : Type 0} (St : Run → Seat → HeldOp → ℕ → Type 0) (seat0 : Seat) (first : HeldOp) (seat : Seat) (op : HeldOp)
    (n : ℕ) : Type 0 where
  pub goes : (run : Run) (made : ℕ) → St run seat0 first made → St run seat op (made + n)

-- the loader's load of a word
pub record IsLoad {Run Seat : Type 0} (St : Run → Seat → HeldOp → ℕ → Type 0) (M : Meaning HeldOp) (word : ℕ) (seat : Seat) (raw : ℕ)
    (behind : Seat) : Type 0 where
  pub may : (run : Run) (op : HeldOp) (made : ℕ) → St run seat op made → M.asked op ≡ Some (Load word) → MayTake M op raw
  pub stands : (run : Run) (op : HeldOp) (made : ℕ) → St run seat op made → M.asked op ≡ Some (Load word) → St run behind (M.taken op raw) (suc made)

one_later : (made n : ℕ) → suc (made + n) ≡ made + (n + 1)
one_later made n = omega arith

module _ {Run Seat : Type 0} {St : Run → Seat → HeldOp → ℕ → Type 0} {seat0 : Seat} {first : HeldOp} {seat : Seat} {op : HeldOp} {n : ℕ}
    (follows : Follows St seat0 first seat op n) where
  one_further : {M : Meaning HeldOp} {word raw : ℕ} {behind : Seat} → IsLoad St M word seat raw behind → M.asked op ≡ Some (Load word) →
      Follows St seat0 first behind (M.taken op raw) (n + 1)
  one_further {M} {word} {raw} {behind} load asks = record {
    goes = λ run made stood. subst (λ k. St run behind (M.taken op raw) k) (one_later made n)
        (load.stands run op (made + n) (follows.goes run made stood) asks);
  }

  becomes : (now : HeldOp) → op ≡ now → Follows St seat0 first seat now n
  becomes now same = subst (λ o. Follows St seat0 first seat o n) same follows

-- ---- a search along the rows

abbrev pub with_path : HeldOp → Option LinkWord → LinkWord → LinkWord → Carried
with_path op back pred next = record { call = op.call; reply = op.reply; path = record { back = back; pred = pred; next = next } }

-- the call at the load of this link word, with its path in variables
abbrev pub looking : HeldOp → Option LinkWord → LinkWord → LinkWord → ℕ → HeldOp
looking op back pred next word = stands (with_path op back pred next) (Next (v_load_started (hand_at op.at) word))

-- so many loads after a first moment the call is at the load of a link word; the operation's own place holds what it held
pub record IsAlong {Run Seat : Type 0} (St : Run → Seat → HeldOp → ℕ → Type 0) (seat0 : Seat) (first : HeldOp) (seat : Seat) (op : HeldOp)
    (back : Option LinkWord) (pred : LinkWord) (word n : ℕ) : Type 0 where
  pub same : op ≡ first
  pub next : LinkWord
  pub is_first : n ≡ 0 → looking op back pred next word ≡ op
  pub is_last : 0 < n → next ≡ pred
  pub follows : Follows St seat0 first seat (looking op back pred next word) n

-- it begins with the path as it is
pub begins : {Run Seat : Type 0} (St : Run → Seat → HeldOp → ℕ → Type 0) (seat : Seat) (op : HeldOp) (path : Path) (word : ℕ) →
    op.path ≡ path → op.at ≡ Next (v_load_started (hand_at op.at) word) → IsAlong St seat op seat op path.back path.pred word 0
begins St seat op path word same at =
    let here : looking op path.back path.pred path.next word ≡ op =
    ap (λ q. looking op q.back q.pred q.next word) (sym same) ∙ ap (λ at. stands (carried op) at) (sym at) in
    let still : Follows St seat op seat op 0 = record { goes = λ run made stood. subst (λ k. St run seat op k) (sym (add-zero made)) stood } in record {
      same = refl;
      next = path.next;
      is_first = λ none. here;
      is_last = λ some. absurd (omega (arith, some));
      follows = becomes still (looking op path.back path.pred path.next word) (sym here);
    }

pub along_none : {Run Seat : Type 0} {St : Run → Seat → HeldOp → ℕ → Type 0} {seat : Seat} {op : HeldOp} {back : Option LinkWord} {pred : LinkWord}
    {word none : ℕ} → none ≡ 0 → IsAlong St seat op seat op back pred word 0 → IsAlong St seat op seat op back pred word none
along_none {St = St} {seat} {op} {back} {pred} {word} none along = subst (IsAlong St seat op seat op back pred word) (sym none) along

-- the path put back
pub put_back : (op : HeldOp) (call : Call) (reply : Reply) (hand : Hand) (back : Option LinkWord) (pred : LinkWord) (word : ℕ) (load : VLoad) →
    call ≡ op.call → reply ≡ op.reply → hand ≡ hand_at op.at → load ≡ v_load_begun word →
    looking op back pred pred word
    ≡ stands (record { call = call; reply = reply; path = record { back = back; pred = pred; next = pred } }) (Next (v_load_of hand load))
put_back op call reply hand back pred word load calls replies hands begun = cc

-- the words of this path are confirmed next
abbrev pub ends : {P : Type 0} → (P → Place) → List P → HeldOp → Option LinkWord → LinkWord → LinkWord → Goal → HeldOp
ends place_of s op back pred next goal = confirms s.layout (place_of s.place) s.pool (with_path op back pred next) (hand_at op.at) goal

-- what a link makes of the search, and what a key makes of it
abbrev pub by_link : {P : Type 0} → (P → Place) → List P → HeldOp → Option LinkWord → LinkWord → LinkWord → ℕ → HeldOp
by_link place_of s op back pred next raw = link_got s.layout (place_of s.place) s.pool (with_path op back pred next) (hand_at op.at) raw

abbrev pub by_key : {P : Type 0} → (P → Place) → List P → HeldOp → Option LinkWord → LinkWord → LinkWord → ℕ → HeldOp
by_key place_of s op back pred next key = key_got s.layout (place_of s.place) s.pool (with_path op back pred next) (hand_at op.at) key

-- the call at the load of a row's key
abbrev pub at_key_of : HeldOp → Option LinkWord → LinkWord → LinkWord → ℕ → HeldOp
at_key_of op back pred next word = stands (with_path op back pred next) (Key (v_load_started (hand_at op.at) word))

-- the link of the row that is looked at is loaded; its key is the next load; and its key is loaded, too
pub record HasLink {P Run Seat : Type 0} (place_of : P → Place) (s : List P) (St : Run → Seat → HeldOp → ℕ → Type 0) (seat0 : Seat) (first : HeldOp)
    (seat : Seat) (op : HeldOp) (back : Option LinkWord) (pred next : LinkWord) (raw n : ℕ) : Type 0 where
  pub follows : Follows St seat0 first seat (by_link place_of s op back pred next raw) n

pub record IsAtKey {Run Seat : Type 0} (St : Run → Seat → HeldOp → ℕ → Type 0) (seat0 : Seat) (first : HeldOp) (seat : Seat) (op : HeldOp)
    (back : Option LinkWord) (pred next : LinkWord) (key_at n : ℕ) : Type 0 where
  pub follows : Follows St seat0 first seat (at_key_of op back pred next key_at) n

pub record HasKey {P Run Seat : Type 0} (place_of : P → Place) (s : List P) (St : Run → Seat → HeldOp → ℕ → Type 0) (seat0 : Seat) (first : HeldOp)
    (seat : Seat) (op : HeldOp) (back : Option LinkWord) (pred next : LinkWord) (key n : ℕ) : Type 0 where
  pub follows : Follows St seat0 first seat (by_key place_of s op back pred next key) n

module _ {Run Seat : Type 0} {St : Run → Seat → HeldOp → ℕ → Type 0} {seat0 : Seat} {first : HeldOp} {seat : Seat} {op : HeldOp}
    {back : Option LinkWord} {pred : LinkWord} {word n : ℕ} (along : IsAlong St seat0 first seat op back pred word n) where
  -- it stops where it is, with the path put back, or before it has gone anywhere
  pub stops_further : 0 < n → (now : HeldOp) → looking op back pred pred word ≡ now → Follows St seat0 first seat now n
  stops_further some now is = becomes along.follows now (ap (λ next. looking op back pred next word) (along.is_last some) ∙ is)

  pub stops_at_once : n ≡ 0 → Follows St seat0 first seat op 0
  stops_at_once none = subst (λ k. Follows St seat0 first seat op k) none (becomes along.follows op (along.is_first none))

  module _ {P : Type 0} (place_of : P → Place) (s : List P) {M : Meaning HeldOp} (alike : MeanAlike M (list_of place_of s)) where
    here_asked : M.asked (looking op back pred along.next word) ≡ Some (Load word)
    here_asked = asks_link place_of s alike (with_path op back pred along.next) (hand_at op.at) word

    module _ {raw : ℕ} {behind : Seat} (load : IsLoad St M word seat raw behind) where
      -- the hand fits into links, since somebody stands here
      pub row_fits : (run : Run) × (made : ℕ) × St run seat0 first made → FitsLink (hand_at op.at)
      row_fits some = fits_link place_of s alike (with_path op back pred along.next) (hand_at op.at) word raw
          (load.may some.0 (looking op back pred along.next word) (some.1 + n) (along.follows.goes some.0 some.1 some.2) here_asked)

      -- the row's link is loaded
      pub link_loaded : {next : LinkWord} → next ≡ loaded word raw → HasLink place_of s St seat0 first behind op back pred next raw (n + 1)
      link_loaded {next} is = record {
        follows = becomes (one_further along.follows load here_asked) (by_link place_of s op back pred next raw)
            (takes_link place_of s alike (with_path op back pred along.next) (hand_at op.at) word raw
            ∙ ap (λ x. by_link place_of s op back pred x raw) (sym is));
      }

-- ---- one row

picks_first : {X : Type 0} (b : Bool) (x y : X) → b ≡ true → (if b then x else y) ≡ x
picks_first b x y e = ap (λ t. if t then x else y) e

picks_second : {X : Type 0} (b : Bool) (x y : X) → b ≡ false → (if b then x else y) ≡ y
picks_second b x y e = ap (λ t. if t then x else y) e

module _ {Run Seat : Type 0} {St : Run → Seat → HeldOp → ℕ → Type 0} {seat0 : Seat} {first : HeldOp} {seat : Seat} {op : HeldOp}
    {back : Option LinkWord} {pred next : LinkWord} {key_at n : ℕ} (at : IsAtKey St seat0 first seat op back pred next key_at n)
    {P : Type 0} (place_of : P → Place) (s : List P) {M : Meaning HeldOp} (alike : MeanAlike M (list_of place_of s)) where
  key_asked : M.asked (at_key_of op back pred next key_at) ≡ Some (Load key_at)
  key_asked = asks_key place_of s alike (with_path op back pred next) (hand_at op.at) key_at

  pub key_comes : (run : Run) × (made : ℕ) × St run seat0 first made →
      (run : Run) × (o : HeldOp) × (made : ℕ) × St run seat o made × (M.asked o ≡ Some (Load key_at))
  key_comes some = (some.0, _, some.1 + n, at.follows.goes some.0 some.1 some.2, key_asked)

  pub key_loaded : {raw key m : ℕ} {behind : Seat} → IsLoad St M key_at seat raw behind → key ≡ value_of raw → m ≡ n + 1 →
      HasKey place_of s St seat0 first behind op back pred next key m
  key_loaded {raw} {key} {m} {behind} load is one_more = record {
    follows = subst (λ k. Follows St seat0 first behind (by_key place_of s op back pred next key) k) (sym one_more)
        (becomes (one_further at.follows load key_asked) (by_key place_of s op back pred next key)
        (takes_key place_of s alike (with_path op back pred next) (hand_at op.at) key_at raw ∙ ap (λ k. by_key place_of s op back pred next k) (sym is)));
  }

module _ {P Run Seat : Type 0} {place_of : P → Place} {s : List P} {St : Run → Seat → HeldOp → ℕ → Type 0} {seat0 : Seat} {first : HeldOp}
    {seat : Seat} {op : HeldOp} {back : Option LinkWord} {pred next : LinkWord} where
  module _ {raw n : ℕ} (has : HasLink place_of s St seat0 first seat op back pred next raw n) {link : Link} (link_is : link ≡ link_of (value_of raw)) where
    -- the row is marked
    pub row_marked : link.mark ≡ true → {new : HeldOp} → new ≡ ends place_of s op back pred next To_help → Follows St seat0 first seat new n
    row_marked marked {new} is =
        let mark : is_marked raw ≡ true = ap (λ k. k.mark) (sym link_is) ∙ marked in
        becomes has.follows new (picks_first (is_marked raw) (ends place_of s op back pred next To_help) _ mark ∙ sym is)

    -- it isn't, and its key comes next
    pub row_unmarked : link.mark ≡ false → {key_at : ℕ} → key_at ≡ key_word s.layout (row_of pred.raw) →
        IsAtKey St seat0 first seat op back pred next key_at n
    row_unmarked unmarked {key_at} is =
        let mark : is_marked raw ≡ false = ap (λ k. k.mark) (sym link_is) ∙ unmarked in record {
          follows = becomes has.follows (at_key_of op back pred next key_at)
              (picks_second (is_marked raw) _ _ mark ∙ ap (λ w. at_key_of op back pred next w) (sym is));
        }

  module _ {key n : ℕ} (has : HasKey place_of s St seat0 first seat op back pred next key n) {wanted : ℕ} (wanted_is : wanted ≡ key_of op.call) where
    abbrev past : HeldOp
    past = looks s.layout (place_of s.place) s.pool (with_path op (Some pred) next next) (hand_at op.at)

    -- the key is the call's, or greater
    pub row_ends : wanted ≤ key → {goal : Goal} → goal ≡ (if key == wanted then To_found else To_absent) →
        {new : HeldOp} → new ≡ ends place_of s op back pred next goal → Follows St seat0 first seat new n
    row_ends least {goal} to {new} is = becomes has.follows new (by_test (key == key_of op.call) refl ∙ sym goes ∙ sym is)
      where
        goes : ends place_of s op back pred next goal ≡ ends place_of s op back pred next (if key == key_of op.call then To_found else To_absent)
        goes = ap (ends place_of s op back pred next) (to ∙ ap (λ w. if key == w then To_found else To_absent) wanted_is)

        by_test : (b : Bool) → (key == key_of op.call) ≡ b →
            (if b then ends place_of s op back pred next To_found
            else (if nat_lt (key_of op.call) key then ends place_of s op back pred next To_absent else past))
            ≡ ends place_of s op back pred next (if b then To_found else To_absent)
        by_test true e = refl
        by_test false e =
            let other = eqb-false key (key_of op.call) e in
            let less : key_of op.call < key = omega (arith, least, other, wanted_is) in
            picks_first (nat_lt (key_of op.call) key) (ends place_of s op back pred next To_absent) past (lt-ltb (key_of op.call) key less)

    -- it is less, and the search goes on behind the row
    module _ (less : key < wanted) where
      passed : Follows St seat0 first seat past n
      passed =
          let least : key < key_of op.call = omega (arith, less, wanted_is) in
          becomes has.follows past
          (picks_second (key == key_of op.call) _ _ (ne_eqb key (key_of op.call) (λ e. omega (arith, e, least)))
          ∙ picks_second (nat_lt (key_of op.call) key) (ends place_of s op back pred next To_absent) past (le-ltb (key_of op.call) key (omega (arith, least))))

      module _ {word raw : ℕ} (next_is : next ≡ loaded word raw) {link : Link} (link_is : link ≡ link_of (value_of raw)) where
        row_is : row_of next.raw ≡ link.row
        row_is = ap (λ x. row_of x.raw) next_is ∙ ap (λ k. k.row) (sym link_is)

        -- which is the last
        pub row_last : link.row ≡ 0 → {new : HeldOp} → new ≡ ends place_of s op (Some pred) next next To_absent → Follows St seat0 first seat new n
        unfolding looks
        row_last none {new} is = becomes passed new
            (picks_first (row_of next.raw == 0) (ends place_of s op (Some pred) next next To_absent) _ (eq-eqb (row_of next.raw) 0 (row_is ∙ none)) ∙ sym is)

        -- or another is there
        pub row_further : link.row ≢ 0 → {to : ℕ} → to ≡ link_word s.layout link.row → op ≡ first → 0 < n →
            IsAlong St seat0 first seat op (Some pred) next to n
        unfolding looks
        row_further some {to} is same any = record {
          same = same;
          next = next;
          is_first = λ none. absurd (omega (arith, none, any));
          is_last = λ h. refl;
          follows = becomes passed (looking op (Some pred) next next to)
              (picks_second (row_of next.raw == 0) _ _ (ne_eqb (row_of next.raw) 0 (λ e. some (sym row_is ∙ e)))
              ∙ ap (λ w. looking op (Some pred) next next w) (ap (link_word s.layout) row_is ∙ sym is));
        }

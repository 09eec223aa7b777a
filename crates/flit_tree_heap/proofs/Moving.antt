-- A tree stays where a word off the tree changes, and it may hang at another edge.
use Rattle.std.proofs.Common.{◌≡◌, ◌≢◌, ℕ, ◌<◌, ◌≤◌, inl, inr, refl, sym, ap, ◌∙◌, arith}
use Rattle.std.proofs.lemmas.Bool.{cases_lt, lt-ltb, le-ltb}
use Rattle.flit_model.specs.Trees.{Tree, Leaf, Inner}
use Rattle.flit_tree_heap.proofs.Growths.{IsLeaf, IsTree, last, said, found, Outside, Writes}
use Rattle.flit_tree_heap.proofs.Words.{own-left, own-right}
use Rattle.flit_tree_heap.specs.Edges.{left, right, own}
use Rattle.flit_tree_heap.specs.Routes.{Reading}

pub root-row : (V : Reading) (w lo hi : ℕ) (t : Tree) → IsTree V w lo hi t → 1 ≤ V.row w
root-row V w lo hi (Leaf r) h = omega (arith, h.named, h.row)
root-row V w lo hi (Inner r a b) h = omega (arith, h.0.named, h.0.row)

-- an edge of a row between lo and hi isn't the word of a row outside
pub left-apart : (V : Reading) (w0 lo hi r : ℕ) → Outside V w0 lo hi → lo < V.key r → V.key r < hi → left r ≢ w0
left-apart V w0 lo hi r (inl o) a b e = omega (arith, ap V.key (ap own e), ap V.key (own-left r))
left-apart V w0 lo hi r (inr o) a b e = omega (arith, ap V.key (ap own e), ap V.key (own-left r))

pub right-apart : (V : Reading) (w0 lo hi r : ℕ) → Outside V w0 lo hi → lo < V.key r → V.key r < hi → right r ≢ w0
right-apart V w0 lo hi r (inl o) a b e = omega (arith, ap V.key (ap own e), ap V.key (own-right r))
right-apart V w0 lo hi r (inr o) a b e = omega (arith, ap V.key (ap own e), ap V.key (own-right r))

pub outside-left : (V : Reading) (w0 lo hi m : ℕ) → Outside V w0 lo hi → m ≤ hi → Outside V w0 lo m
outside-left V w0 lo hi m (inl o) b = inl o
outside-left V w0 lo hi m (inr o) b = inr (omega arith)

pub outside-right : (V : Reading) (w0 lo hi m : ℕ) → Outside V w0 lo hi → lo ≤ m → Outside V w0 m hi
outside-right V w0 lo hi m (inl o) b = inl (omega arith)
outside-right V w0 lo hi m (inr o) b = inr o

pub last-left : (V : Reading) (k w r : ℕ) (a b : Tree) → k < V.key r → last V k w (Inner r a b) ≡ last V k (left r) a
last-left V k w r a b h = rw (lt-ltb k (V.key r) h)

pub last-right : (V : Reading) (k w r : ℕ) (a b : Tree) → V.key r ≤ k → last V k w (Inner r a b) ≡ last V k (right r) b
last-right V k w r a b h = rw (le-ltb k (V.key r) h)

-- what two trees of one root give is the same where their parts give the same
pub found-node : (V U : Reading) (k w w' r : ℕ) (a b a' b' : Tree) → U.key r ≡ V.key r →
    (k < V.key r → found U k (left r) a' ≡ found V k (left r) a) → (V.key r ≤ k → found U k (right r) b' ≡ found V k (right r) b) →
    found U k w' (Inner r a' b') ≡ found V k w (Inner r a b)
found-node V U k w w' r a b a' b' e fl fr = elim (cases_lt k (V.key r)) [
  | inl c ↦ rw (last-left V k w r a b c, last-left U k w' r a' b' (omega arith)) (fl c)
  | inr c ↦ rw (last-right V k w r a b c, last-right U k w' r a' b' (omega arith)) (fr c)
]

module _ (V U : Reading) (w0 : ℕ) (W : Writes V U w0) where
  pub leaf-move : (w w' lo hi lo' hi' r : ℕ) → IsLeaf V w lo hi r → U.row w' ≡ V.row w → U.flag w' ≡ V.flag w → lo' ≤ V.key r → V.key r < hi' →
      IsLeaf U w' lo' hi' r
  leaf-move w w' lo hi lo' hi' r h er ef el eh =
      let nl : left r ≢ w0 = λ e. omega (arith, ap V.row e, h.no_left, W.edge) in
      let nr : right r ≢ w0 = λ e. omega (arith, ap V.row e, h.no_right, W.edge) in
      record {
        named = er ∙ h.named;
        row = h.row;
        inside = rw W.rows h.inside;
        low = rw (W.key r) el;
        high = rw (W.key r) eh;
        no_left = W.row (left r) nl ∙ h.no_left;
        no_right = W.row (right r) nr ∙ h.no_right;
        left_plain = (W.flag (left r) nl ∙ h.left_plain.0, W.frozen (left r) nl ∙ h.left_plain.1);
        right_plain = (W.flag (right r) nr ∙ h.right_plain.0, W.frozen (right r) nr ∙ h.right_plain.1);
        below = rw (W.key r) h.below;
        stays = λ e. h.stays (sym ef ∙ e);
      }

  -- the tree below w stays, and stands as well below w', in a wider range
  pub move : (w w' lo hi lo' hi' : ℕ) (t : Tree) → IsTree V w lo hi t → Outside V w0 lo hi → U.row w' ≡ V.row w → U.flag w' ≡ V.flag w → lo' ≤ lo → hi ≤ hi' →
      IsTree U w' lo' hi' t
  move w w' lo hi lo' hi' (Leaf r) h o er ef el eh = leaf-move w w' lo hi lo' hi' r h er ef (omega (arith, h.low)) (omega (arith, h.high))
  move w w' lo hi lo' hi' (Inner r a b) h o er ef el eh =
      let nl = left-apart V w0 lo hi r o h.0.low h.0.high in
      let nr = right-apart V w0 lo hi r o h.0.low h.0.high in
      let ek = W.key r in (
        record {
          named = er ∙ h.0.named;
          row = h.0.row;
          inside = rw W.rows h.0.inside;
          low = rw ek (omega (arith, h.0.low));
          high = rw ek (omega (arith, h.0.high));
          unflagged = ef ∙ h.0.unflagged;
          left_frozen = λ e. W.flag (right r) nr ∙ h.0.left_frozen (sym (W.frozen (left r) nl) ∙ e);
          right_frozen = λ e. W.flag (left r) nl ∙ h.0.right_frozen (sym (W.frozen (right r) nr) ∙ e);
        },
        rw ek (move (left r) (left r) lo (V.key r) lo' (V.key r) a h.1 (outside-left V w0 lo hi (V.key r) o (omega (arith, h.0.high))) (W.row (left r) nl)
            (W.flag (left r) nl) el (omega arith)),
        rw ek (move (right r) (right r) (V.key r) hi (V.key r) hi' b h.2 (outside-right V w0 lo hi (V.key r) o (omega (arith, h.0.low))) (W.row (right r) nr)
            (W.flag (right r) nr) (omega arith) eh),
      )

  pub said-same : (k w w' : ℕ) → U.row w' ≡ V.row w → U.flag w' ≡ V.flag w → said U k w' ≡ said V k w
  unfolding said
  said-same k w w' er ef = rw (er, ef, W.key (V.row w), W.value (V.row w)) refl

  -- and gives the same
  pub move-found : (k w w' lo hi : ℕ) (t : Tree) → IsTree V w lo hi t → Outside V w0 lo hi → U.row w' ≡ V.row w → U.flag w' ≡ V.flag w →
      found U k w' t ≡ found V k w t
  move-found k w w' lo hi (Leaf r) h o er ef = said-same k w w' er ef
  move-found k w w' lo hi (Inner r a b) h o er ef =
      let nl = left-apart V w0 lo hi r o h.0.low h.0.high in
      let nr = right-apart V w0 lo hi r o h.0.low h.0.high in
      found-node V U k w w' r a b a b (W.key r)
      (λ _. move-found k (left r) (left r) lo (V.key r) a h.1 (outside-left V w0 lo hi (V.key r) o (omega (arith, h.0.high))) (W.row (left r) nl)
      (W.flag (left r) nl))
      (λ _. move-found k (right r) (right r) (V.key r) hi b h.2 (outside-right V w0 lo hi (V.key r) o (omega (arith, h.0.low))) (W.row (right r) nr)
      (W.flag (right r) nr))

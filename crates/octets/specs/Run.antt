-- A run of items that lie end to end in a list of bytes, read as a tree. What an item is, is a parameter: a character of
-- UTF-8 (RFC 3629), an AVP of Diameter (RFC 6733) and an attribute of RADIUS (RFC 2865) are three kinds of item.
use Rattle.std.specs.Prelude.{ℕ, zero, suc, ◌+◌, max, Bool, true, false, List, [], ◌∷◌, ◌++◌, length, take, drop}

-- How a run is read. The first two look at all that is left of the run; the last two at an item's own bytes.
pub record Format : Type 0 where
  -- is there a complete item at the front?
  pub complete : List ℕ → Bool
  -- how many bytes it takes
  pub size : List ℕ → ℕ
  -- is the payload of an item a run of its own?
  pub nested : List ℕ → Bool
  pub payload : List ℕ → List ℕ

-- the item at the front of what is left, and what follows it
unfoldable pub item : Format → List ℕ → List ℕ
item F s = take (F.size s) s

unfoldable pub after : Format → List ℕ → List ℕ
after F s = drop (F.size s) s

-- A run is a tree:
pub data Tree : Type 0 where
  -- nothing is left;
  done : Tree
  -- a byte is left, and there is no complete item;
  broken : Tree
  -- a complete item, and what follows it;
  plain : List ℕ → Tree → Tree
  -- a complete item whose payload is a run too, that run, and what follows the item.
  group : List ℕ → Tree → Tree → Tree

-- the tree of a run that has a byte left: is its first item complete, is that item's payload a run, the item, that run, and what follows
abbrev pub node : Bool → Bool → List ℕ → Tree → Tree → Tree
node false b a inner rest = broken
node true false a inner rest = plain a rest
node true true a inner rest = group a inner rest

-- The recursion counts down a number that is large enough, the length. `tree_none` and `tree_step` are the equations
-- that a reader expects, and nothing after them looks at the count.
unfoldable pub tree_in : Format → ℕ → List ℕ → Tree
tree_in F zero s = done
tree_in F (suc n) [] = done
tree_in F (suc n) (b ∷ s) =
    let a = item F (b ∷ s) in
    let inner = tree_in F n (F.payload a) in
    let rest = tree_in F n (after F (b ∷ s)) in
    node (F.complete (b ∷ s)) (F.nested a) a inner rest

unfoldable pub tree : Format → List ℕ → Tree
tree F s = tree_in F (length s) s

-- complete items cover the run to its last byte
abbrev pub tiles : Tree → Bool
tiles done = true
tiles broken = false
tiles (plain a rest) = tiles rest
tiles (group a inner rest) = tiles rest

-- how many items are tried: the complete ones and the one that is not, those inside payloads that do not tile too
abbrev pub tried : Tree → ℕ
tried done = 0
tried broken = 1
tried (plain a rest) = 1 + tried rest
tried (group a inner rest) = 1 + tried inner + tried rest

-- the deepest level at which an item is tried, the run's own being 1; 0 where none is
abbrev pub deepest : Tree → ℕ
deepest done = 0
deepest broken = 1
deepest (plain a rest) = max 1 (deepest rest)
deepest (group a inner rest) = max (1 + deepest inner) (deepest rest)

-- the bytes of the run's own items, one after the other
abbrev pub covered : Tree → List ℕ
covered done = []
covered broken = []
covered (plain a rest) = a ++ covered rest
covered (group a inner rest) = a ++ covered rest

-- those items, with nothing of what is inside them
abbrev pub items : Tree → List (List ℕ)
items done = []
items broken = []
items (plain a rest) = a ∷ items rest
items (group a inner rest) = a ∷ items rest

-- The words of the client's page in flooding's: forwards and pairs, rounds, what is seen of a network, chains. Assumes nothing.
use Rattle.std.specs.Prelude.{◌≡◌, refl, ◌↔◌, Bool, true, false, cond, List, [], ◌∷◌, ◌++◌, ℕ, zero, suc, ◌<◌, length, take}
use Rattle.std.proofs.Common.{sym, ap, ◌∙◌, arith, eqb-true, eq-eqb}
use Rattle.std.proofs.Math.Decide.{dec_lt}
use Rattle.sets.specs.Set.{has}
use Rattle.sets.proofs.laws.Any.{all_yes, all_why}
use Rattle.sets.proofs.laws.Bools.{and_both, and_yes}
use Rattle.sets.proofs.laws.Members.{has_none}
use Rattle.sets.proofs.laws.Lowest.{none_empty}
use Rattle.flooding.specs.Network as flooding
use Rattle.flooding.specs.Network.{Chain, holds, link_to}
use Rattle.flooding.specs.Counts.{unseen_pairs}
use Rattle.flooding.specs.Machine.{Pair, pair, run, Accepts, row, todo, due}
use Rattle.network.specs.declared.Peer.{Peer}
use Rattle.network.specs.declared.Message.{Message}
use Rattle.network.specs.declared.Network.{Network}
use Rattle.network.specs.declared.Table.{Table}
use Rattle.network.specs.Network.{peer, message, pending_of, present, pending, subscribed, linked, topic_of, Shaped, Rows}
use Rattle.network.specs.Sound.{Sound}
use Rattle.network.specs.laws.SoundLaws.{pending_present}
use Rattle.floodnet.specs.Forward.{forwarded}
use Rattle.floodnet.specs.laws.ForwardLaws.{forwarded_sound}
use Rattle.network.specs.Rules.{need}
use Rattle.floodnet.specs.Refusals.{refusal_forward}
use Rattle.floodnet.specs.laws.Places.{has_beyond}
use Rattle.floodnet.specs.View.{view, fwd}
use Rattle.floodnet.specs.laws.ViewLaws.{view_linked}
use Rattle.drain.specs.Drain.{quiet_of}
use Rattle.drain.specs.Reach.{Forward, by, after, Accepted, unseen, Quiet, Reaches, holder, onward, due_at, due_below, due_of}

-- ---- forwards by their numbers

-- the pairs of flooding that a list of forwards is
abbrev pub numbers : List Forward → List Pair
numbers [] = []
numbers (by p m ∷ l) = pair p.0 m.0 ∷ numbers l

pub numbers_length : (l : List Forward) → length (numbers l) ≡ length l
numbers_length [] = refl
numbers_length (by p m ∷ l) = ap suc (numbers_length l)

-- A forward is refused unless its message is pending there, and in a sound network accepted if it is.
pub accepted_pending : (n : Network) (p : Peer) (m : Message) → refusal_forward n p m ≡ 0 → pending n p m ≡ true
unfolding refusal_forward need
accepted_pending n p m = go (present n p) (pending n p m)
  where
    go : (x y : Bool) → need x 8 (need y 13 0) ≡ 0 → y ≡ true
    go x true h = refl
    go true false h = absurd (omega arith)
    go false false h = absurd (omega arith)

pub pending_accepted : {n : Network} → Sound n → (p : Peer) (m : Message) → pending n p m ≡ true → refusal_forward n p m ≡ 0
unfolding refusal_forward need
pending_accepted s p m h = rw (pending_present s p m h, h)

-- The network after them, and their acceptance, are those of flooding.
pub after_run : (b : Table) (n : Network) (l : List Forward) → after b n l ≡ run (fwd b) n (numbers l)
unfolding after run fwd
after_run b n [] = refl
after_run b n (by p m ∷ l) = after_run b (forwarded n b p m) l

pub accepts : (b : Table) (n : Network) (l : List Forward) → Accepted b n l → Accepts (view b) (fwd b) n (numbers l)
unfolding view fwd
accepts b n [] a = tt
accepts b n (by p m ∷ l) a = (accepted_pending n p m a.0, accepts b (forwarded n b p m) l a.1)

-- ---- and back: the forwards of a list of pairs

abbrev pub named : List Pair → List Forward
named [] = []
named (pair p m ∷ l) = by (peer p) (message m) ∷ named l

pub named_length : (l : List Pair) → length (named l) ≡ length l
named_length [] = refl
named_length (pair p m ∷ l) = ap suc (named_length l)

named_append : (l r : List Pair) → named (l ++ r) ≡ named l ++ named r
named_append [] r = refl
named_append (pair p m ∷ l) r = ap (λ (x : List Forward). by (peer p) (message m) ∷ x) (named_append l r)

named_take : (k : ℕ) (l : List Pair) → named (take k l) ≡ take k (named l)
named_take zero l = refl
named_take (suc k) [] = refl
named_take (suc k) (pair p m ∷ l) = ap (λ (x : List Forward). by (peer p) (message m) ∷ x) (named_take k l)

pub after_named : (b : Table) (n : Network) (l : List Pair) → after b n (named l) ≡ run (fwd b) n l
unfolding after run fwd
after_named b n [] = refl
after_named b n (pair p m ∷ l) = after_named b (forwarded n b (peer p) (message m)) l

pub accepted_named : {b : Table} {n : Network} → Sound n → Rows b → (l : List Pair) → Accepts (view b) (fwd b) n l → Accepted b n (named l)
unfolding view fwd
accepted_named {b} {n} s rows [] a = tt
accepted_named {b} {n} s rows (pair p m ∷ l) a =
    (pending_accepted s (peer p) (message m) a.0, accepted_named {b = b} {n = forwarded n b (peer p) (message m)} (forwarded_sound s rows (peer p) (message m) a.0) rows l a.1)

-- ---- a round

-- Its forwards are flooding's pairs, in the same order.
named_row : (b : Table) (n : Network) (p k : ℕ) → named (row (view b n) p k) ≡ due_at n (peer p) k
unfolding row view due_at
named_row b n p zero = refl
named_row b n p (suc k) = named_append (row (view b n) p k) _ ∙ rw (named_row b n p k) (first (pending n (peer p) (message k)))
  where
    first : (x : Bool) → due_at n (peer p) k ++ named (cond x (pair p k ∷ []) []) ≡ due_at n (peer p) k ++ cond x (by (peer p) (message k) ∷ []) []
    first true = refl
    first false = refl

named_todo : (b : Table) (n : Network) (p : ℕ) → named (todo 64 (view b n) p) ≡ due_below n p
unfolding todo due_below
named_todo b n zero = refl
named_todo b n (suc p) = named_append (todo 64 (view b n) p) _ ∙ rw (named_todo b n p, named_row b n p 64)

pub due_length : (b : Table) (n : Network) → length (due_of n) ≡ length (due 32 64 (view b n))
due_length b n = ap length (sym (named_todo b n 32)) ∙ named_length (due 32 64 (view b n))

-- So its run is flooding's, whole or in part.
pub after_due : (b : Table) (n : Network) → after b n (due_of n) ≡ run (fwd b) n (due 32 64 (view b n))
after_due b n = ap (λ (l : List Forward). after b n l) (sym (named_todo b n 32)) ∙ after_named b n (due 32 64 (view b n))

pub after_part : (b : Table) (n : Network) (k : ℕ) → after b n (take k (due_of n)) ≡ run (fwd b) n (take k (due 32 64 (view b n)))
after_part b n k =
    ap (λ (l : List Forward). after b n (take k l)) (sym (named_todo b n 32)) ∙ ap (λ (l : List Forward). after b n l) (sym (named_take k (due 32 64 (view b n))))
    ∙ after_named b n (take k (due 32 64 (view b n)))

-- ---- what is seen of a network

pub still : (b : Table) (n : Network) → Quiet n → flooding.Quiet (view b n)
unfolding view
still b n q p m = q (peer p) (message m)

pub quiet : (b : Table) (n : Network) → flooding.Quiet (view b n) → Quiet n
unfolding view
quiet b n q p m = q p.0 m.0

-- Every word is empty exactly if nothing is pending.
pub quiet_words : {n : Network} → Shaped n → (quiet_of n ≡ true) ↔ Quiet n
unfolding quiet_of
quiet_words {n} s = (there, λ q. all_yes 32 _ λ p l. eq-eqb _ 0 (none_empty (pending_of n (peer p)) λ m. q (peer p) (message m)))
  where
    there : quiet_of n ≡ true → Quiet n
    there e p m = go (dec_lt p.0 32)
      where
        go : Dec (p.0 < 32) → pending n p m ≡ false
        go (yes l) = ap (λ (w : ℕ). has w m.0) (eqb-true (pending_of n p) 0 (all_why 32 _ e p.0 l)) ∙ has_none m.0
        go (no l) = has_beyond n.pending p.0 m.0 (omega (arith, s.pending))

pub unseen_pairs_lem : (b : Table) (n : Network) → unseen n ≡ unseen_pairs 32 64 (view b n)
unfolding unseen unseen_pairs view
unseen_pairs_lem b n = refl

-- ---- chains: in a sound network p knows q to subscribe where q is its neighbour and subscribed

pub to_chain : {b : Table} {n : Network} {m : Message} {q : Peer} {d : ℕ} → Sound n → Rows b → Reaches b n m q d → Chain (view b n) m.0 q.0 d
unfolding view
to_chain s rows (holder h) = holds h
to_chain {m = m} s rows (onward {p = p} {q = q} c k u z) = link_to (to_chain s rows c) (view_linked s rows m.0 p.0 q.0 ∙ and_both k u) z

pub of_chain : {b : Table} {n : Network} {m q d : ℕ} → Sound n → Rows b → Chain (view b n) m q d → Reaches b n (message m) (peer q) d
unfolding view
of_chain s rows (holds h) = holder h
of_chain {b} {n} {m} s rows (link_to {p = p} {q = q} c k z) =
    let x = and_yes (linked n (peer p) (peer q)) (subscribed n (peer q) (topic_of b (message m))) (sym (view_linked s rows m p q) ∙ k) in
    onward (of_chain s rows c) x.0 x.1 z

-- The image in observations; two Broadcastnet states are one if they show the same. Assumes nothing.
use Rattle.std.specs.Prelude.{◌≡◌, Bool, true, false, not, ◌&&◌, ◌||◌, List, ℕ, zero, suc, ◌+◌, ◌^◌, ◌≤◌, ◌<◌, eqb, length, get_or, replicate}
use Rattle.std.proofs.Common.{sym, ap, ◌∙◌, add-one, arith, ext_get_or}
use Rattle.std.proofs.Math.Bool.{and-true}
use Rattle.std.proofs.Math.Decide.{dec_lt}
use Rattle.sets.specs.Set.{has, union, minus, set_of}
use Rattle.sets.specs.Any.{any}
use Rattle.sets.proofs.laws.Any.{any_yes, any_none}
use Rattle.sets.proofs.laws.Members.{has_union, has_minus, has_none, ext}
use Rattle.sets.proofs.laws.Bounds.{has_out}
use Rattle.sets.proofs.laws.Build.{has_set_of, set_of_lt}
use Rattle.lists.specs.Edit.{edit}
use Rattle.lists.specs.laws.Edit.{length_edit, edit_none, is_edit}
use Rattle.lists.specs.Tab.{Filled}
use Rattle.network.specs.declared.Peer.{Peer}
use Rattle.network.specs.declared.Message.{Message}
use Rattle.network.specs.declared.Network.{Network}
use Rattle.network.specs.Network.{mk, peer, message, pending, saw, seen_of, Shaped}
use Rattle.floodnet.specs.laws.Places.{has_beyond, has_edit, has_edit_with}
use Rattle.broadcastnet.specs.Broadcast.{Broadcastnet, saw_in, broadcast_partial}
use Rattle.broadcastnet.specs.Commit.{somewhere, who_saw, together, underway, without, image, as_network, image_net}

-- ---- states of Broadcastnet

-- They are equal if they agree in presence and topics, and each peer has the same messages.
pub bn_same : {s u : Broadcastnet} → s.present ≡ u.present → s.pubs ≡ u.pubs → s.subs ≡ u.subs → length s.seen ≡ length u.seen
    → ((q : Peer) (m : Message) → saw_in s q m ≡ saw_in u q m) → s ≡ u
bn_same {s} {u} a b c e h = λ i. record { present = a i; pubs = b i; subs = c i; seen = d i }
  where
    d : s.seen ≡ u.seen
    d = ext_get_or 0 s.seen u.seen e λ i l. ext (get_or s.seen i 0) (get_or u.seen i 0) λ j. h (peer i) (message j)

-- After a partial broadcast those it went to have the message, and all else is as it was.
pub partial_saw : (m : Message) (who : ℕ) (s : Broadcastnet) → length s.seen ≡ 32 → who < 2 ^ 32 → (q : Peer) (k : Message)
    → saw_in (broadcast_partial m who s) q k ≡ saw_in s q k || (has who q.0 && eqb k.0 m.0)
unfolding broadcast_partial
partial_saw m who s e h q k = has_edit_with who m.0 s.seen q.0 k.0 λ o. has_out 32 who q.0 h (rw e at o)

-- ---- what is pending somewhere

-- One peer at which it is pending.
pub somewhere_yes : (n : Network) (p : Peer) (m : Message) → p.0 < 32 → pending n p m ≡ true → somewhere n m ≡ true
unfolding somewhere
somewhere_yes n p m l h = any_yes 32 (λ (q : ℕ). pending n (peer q) m) p.0 l h

-- Pending at no peer.
pub somewhere_none : (n : Network) (m : Message) → ((p : Peer) → pending n p m ≡ false) → somewhere n m ≡ false
unfolding somewhere
somewhere_none n m h = any_none 32 (λ (q : ℕ). pending n (peer q) m) λ q l. h (peer q)

-- The first words of a list have together what one of them has.
pub has_together : (k : ℕ) (l : List ℕ) (i : ℕ) → has (together k l) i ≡ any k (λ (p : ℕ). has (get_or l p 0) i)
unfolding together any
has_together zero l i = has_none i
has_together (suc k) l i = has_union (together k l) (get_or l k 0) i ∙ ap (λ (x : Bool). x || has (get_or l k 0) i) (has_together k l i)

-- What is under way is what is pending somewhere.
pub has_underway : (n : Network) (m : Message) → has (underway n) m.0 ≡ somewhere n m
unfolding underway somewhere
has_underway n m = has_together 32 n.pending m.0

-- A loop that joins them one by one: one word more.
pub together_more : {w r : ℕ} (k : ℕ) (l : List ℕ) → w ≡ together k l → r ≡ union w (get_or l k 0) → r ≡ together (k + 1) l
unfolding together
together_more k l e h = h ∙ ap (λ (x : ℕ). union x (get_or l k 0)) e ∙ sym (ap (λ (x : ℕ). together x l) (add-one k))

-- Sets filled in from the front, each without w, are in the end all of them without w.
pub without_filled : (w : ℕ) (l : List ℕ) {r : List ℕ} → length l ≡ 32 → Filled 32 (λ (i : ℕ). minus (get_or l i 0) w) 32 r → r ≡ without w l
unfolding without
without_filled w l {r} e h = is_edit (λ q x. minus x w) l r (h.long ∙ sym e) λ i b. h.front i (omega (arith, e))

-- ---- the image

-- The image as it is written, from the messages under way and the sets without them.
pub image_net_made : (n : Network) {w : ℕ} {l : List ℕ} → w ≡ together 32 n.pending → l ≡ without w n.seen
    → mk n.present n.pubs n.subs (replicate 32 0) (replicate 32 0) l (replicate 1024 0) ≡ image_net n
unfolding image_net as_network image underway
image_net_made n e h =
    ap (λ (x : List ℕ). mk n.present n.pubs n.subs (replicate 32 0) (replicate 32 0) x (replicate 1024 0)) (h ∙ ap (λ (x : ℕ). without x n.seen) e)

-- A peer has m in the image if it has seen it, and m is pending nowhere.
pub image_saw : (n : Network) (q : Peer) (m : Message) → saw_in (image n) q m ≡ saw n q m && not (somewhere n m)
unfolding image without
image_saw n q m = go (dec_lt q.0 (length n.seen))
  where
    go : Dec (q.0 < length n.seen) → has (get_or (edit (λ q x. minus x (underway n)) n.seen) q.0 0) m.0 ≡ saw n q m && not (somewhere n m)
    go (yes l) =
        has_edit (λ q x. minus x (underway n)) n.seen q.0 m.0 l ∙ has_minus (seen_of n q) (underway n) m.0
        ∙ ap (λ (x : Bool). saw n q m && not x) (has_underway n m)
    go (no l) =
        let o : length n.seen ≤ q.0 = omega arith in
        has_beyond (edit (λ q x. minus x (underway n)) n.seen) q.0 m.0 (rw length_edit o) ∙ sym (rw (has_beyond n.seen q.0 m.0 o))

-- It has as many sets of seen messages as the network.
pub image_length : (n : Network) → length (image n).seen ≡ length n.seen
unfolding image without
image_length n = length_edit (λ q x. minus x (underway n)) n.seen

-- Two networks with equal presence and topics have one image if each peer has the same messages in it.
pub image_same : (n o : Network) → o.present ≡ n.present → o.pubs ≡ n.pubs → o.subs ≡ n.subs → length o.seen ≡ length n.seen
    → ((q : Peer) (m : Message) → saw_in (image o) q m ≡ saw_in (image n) q m) → image o ≡ image n
unfolding image
image_same n o a b c e h = bn_same a b c (image_length o ∙ e ∙ sym (image_length n)) h

-- Where nothing is pending the image shows all that was seen.
pub image_quiet : (n : Network) → ((p : Peer) (m : Message) → pending n p m ≡ false) → (image n).seen ≡ n.seen
unfolding image without
image_quiet n h = sym (edit_none (λ q x. minus x (underway n)) n.seen λ i. ext (minus (get_or n.seen i 0) (underway n)) (get_or n.seen i 0) (keep i))
  where
    keep : (i j : ℕ) → has (minus (get_or n.seen i 0) (underway n)) j ≡ has (get_or n.seen i 0) j
    keep i j =
        has_minus (get_or n.seen i 0) (underway n) j
        ∙ rw (has_underway n (message j), somewhere_none n (message j) λ p. h p (message j)) (and-true (has (get_or n.seen i 0) j))

-- ---- who has seen a message

-- They are the peers that have.
pub has_who_saw : {n : Network} → Shaped n → (m : Message) (q : Peer) → has (who_saw n m) q.0 ≡ saw n q m
unfolding who_saw
has_who_saw {n} s m q = go (dec_lt q.0 32)
  where
    go : Dec (q.0 < 32) → has (set_of 32 (λ (i : ℕ). saw n (peer i) m)) q.0 ≡ saw n q m
    go (yes l) = has_set_of 32 (λ (i : ℕ). saw n (peer i) m) q.0 l
    go (no l) =
        let o : 32 ≤ q.0 = omega arith in
        has_out 32 (set_of 32 (λ (i : ℕ). saw n (peer i) m)) q.0 (set_of_lt 32 (λ (i : ℕ). saw n (peer i) m)) o
        ∙ sym (has_beyond n.seen q.0 m.0 (omega (arith, s.seen)))

pub who_saw_lt : (n : Network) (m : Message) → who_saw n m < 2 ^ 32
unfolding who_saw
who_saw_lt n m = set_of_lt 32 (λ (i : ℕ). saw n (peer i) m)

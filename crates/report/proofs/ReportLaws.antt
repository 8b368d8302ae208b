-- How long what is printed can be, and the loop that writes the lines of the peers. Assumes nothing.
use Rattle.std.proofs.Common.{◌≡◌, refl, ap, ◌∙◌, Bool, true, false, cond, List, [], ◌++◌, ℕ, zero, suc, ◌+◌, ◌*◌, ◌^◌, ◌≤◌, ◌<◌, length, drop, arith, append-nil, length-append, lt-ltb, le-ltb}
use Rattle.sets.specs.Set.{has, only, size, lowest}
use Rattle.sets.specs.Rising.{rising, Takes}
use Rattle.sets.proofs.laws.Bounds.{minus_lt}
use Rattle.sets.proofs.laws.Rising.{rising_empty, rising_lowest}
use Rattle.sets.proofs.laws.Sizes.{size_le, size_rest}
use Rattle.network.specs.declared.Peer.{Peer}
use Rattle.network.specs.declared.Network.{Network}
use Rattle.network.specs.Network.{peer, subs_of, pending_of, seen_of, Shaped}
use Rattle.report.specs.laws.TextLaws.{length_count, length_byte, spaced_count, spaced_long}
use Rattle.report.specs.declared.text.Page.{Page}
use Rattle.report.specs.Write.{Put}
use Rattle.report.proofs.Write.{wrote_front, put_none, put_then}
use Rattle.report.specs.Report.{flood, peer_word, first_line, count_line, peer_line, peer_lines, report_of, put_in, count_in, Reported}

-- The first line: 6 + 3 + 1 + 20 + 1 + 20 + 1.
pub length_first : (number place accepted : ℕ) → number < 256 → place < 2 ^ 64 → accepted < 2 ^ 64 → length (first_line number place accepted) ≤ 52
unfolding first_line flood
length_first number place accepted a b c =
    simp length-append (omega (arith, length_byte number a, spaced_long place b, spaced_long accepted c))

-- A peer's line, no number in it above 99: 5 + 2 + 1 + 2 + 1 + 2 + 1 + 2 + 1.
length_counts : (p a b c : ℕ) → p < 100 → a < 100 → b < 100 → c < 100 → length (count_line p a b c) ≤ 17
unfolding count_line peer_word
length_counts p a b c hp ha hb hc =
    simp length-append (omega (arith, length_count p hp, spaced_count a ha, spaced_count b hb, spaced_count c hc))

-- The line of a peer of any network that code can hold.
pub length_line : (n : Network) (p : Peer) → p.0 < 32 → Shaped n → length (peer_line n p) ≤ 17
unfolding peer_line
length_line n p h s =
    length_counts p.0 _ _ _ (omega arith)
    (omega (arith, size_le 32 (subs_of n p) (s.subs_fit p.0)))
    (omega (arith, size_le 64 (pending_of n p) (s.pending_fit p.0)))
    (omega (arith, size_le 64 (seen_of n p) (s.seen_fit p.0)))

-- Those of the members of s.
length_lines : (k s : ℕ) (n : Network) → k ≤ 32 → Shaped n → length (rising (λ p. peer_line n (peer p)) k s) ≤ 17 * k
unfolding rising
length_lines zero s n h f = omega arith
length_lines (suc k) s n h f = omega (arith, length-append (rising (λ p. peer_line n (peer p)) k s) (cond (has s k) (peer_line n (peer k)) []), length_lines k s n (omega arith) f, one (has s k))
  where
    one : (b : Bool) → length (cond b (peer_line n (peer k)) []) ≤ 17
    one true = length_line n (peer k) (omega arith) f
    one false = omega arith

-- All that is printed fits 1,024 bytes: 52 for the first line, 17 for each of 32 peers.
pub length_report : (number place accepted : ℕ) (n : Network) (shown : Bool) → number < 256 → place < 2 ^ 64 → accepted < 2 ^ 64 → Shaped n
    → length (report_of number place accepted n shown) ≤ 596
unfolding report_of peer_lines
length_report number place accepted n shown a b c s =
    omega (arith, length-append (first_line number place accepted) (cond shown (peer_lines n) []), length_first number place accepted a b c, rest shown)
  where
    rest : (x : Bool) → length (cond x (peer_lines n) []) ≤ 544
    rest true = length_lines 32 n.present n (omega arith) s
    rest false = omega arith

-- ---- writing

-- What the loop over the peers keeps, with `left` for those whose lines are still to be written: their lines, written next, are the last of all.
pub record Lining (n : Network) (left : ℕ) (p q : Page) : Type 0 where
  pub below : left < 2 ^ 32
  pub long : length q.out.now ≡ length p.out.now
  pub room : q.at + 17 * size left ≤ p.at + 544
  pub all : (r : Page) → Put q (rising (λ i. peer_line n (peer i)) 32 left) r → Put p (peer_lines n) r

-- before the first line
pub lines_none : {n : Network} {left : ℕ} {p : Page} → left < 2 ^ 32 → left ≡ n.present → Lining n left p p
unfolding peer_lines
lines_none {n} {left} b e = record { below = b; long = refl; room = omega (arith, size_le 32 left b); all = λ r w. rw e at w }

-- there is room for one more, where one is left
pub lines_room : {n : Network} {left left' i : ℕ} {p q : Page} → Lining n left p q → Takes 32 left i left' → p.at + 544 ≤ length p.out.now
    → q.at + 17 ≤ length q.out.now
lines_room {left = left} v t h = omega (arith, v.room, v.long, h, size_rest 32 left t.some v.below)

-- the line of i, the least of those left
pub lines_more : {n : Network} {left left' i : ℕ} {p q q' : Page} → Lining n left p q → Takes 32 left i left'
    → Put q (peer_line n (peer i)) q' → q'.at ≤ q.at + 17 → Lining n left' p q'
lines_more {n} {left} {left'} {i} v t w b = record {
  below = rw t.rest (minus_lt 32 left (only (lowest 32 left)) v.below);
  long = w.long ∙ v.long;
  room = omega (arith, v.room, b, ap size t.rest, size_rest 32 left t.some v.below);
  all = λ r x. v.all r (rw (rising_lowest (λ i. peer_line n (peer i)) 32 left t.some v.below) (put_then (rw t.least at w) (rw t.rest at x)));
}

-- after the last
pub lines_all : {n : Network} {left : ℕ} {p q : Page} → Lining n left p q → left ≡ 0 → Put p (peer_lines n) q
lines_all {n} {q = q} v e = v.all q (rw (e, rising_empty (λ i. peer_line n (peer i)) 32) (put_none q))

-- A short buffer is left as it was.
pub reported_none : (number place accepted : ℕ) (n : Network) (shown : Bool) (l : List ℕ) → length l < 1024 → Reported number place accepted n shown l l 0
unfolding put_in count_in
reported_none number place accepted n shown l h =
    record { count = rw (lt-ltb (length l) 1024 h); bytes = rw (lt-ltb (length l) 1024 h); room = omega arith }

-- What was put from the start on is what is promised.
reported : {p q : Page} {r : List ℕ} (number place accepted : ℕ) (n : Network) (shown : Bool) → 1024 ≤ length p.out.now → p.at ≡ 0
    → Put p (report_of number place accepted n shown) q → q.at ≤ 1024 → r ≡ q.out.now → Reported number place accepted n shown p.out.now r q.at
unfolding put_in count_in
reported {p} number place accepted n shown e z w h er =
    let f = wrote_front (omega arith) (rw z at w.wrote) in
    record {
      count = rw (le-ltb (length p.out.now) 1024 e) f.0;
      bytes = rw (le-ltb (length p.out.now) 1024 e) (er ∙ f.1 ∙ rw f.0);
      room = h;
    }

-- The first line alone.
pub reported_first : {p q q' : Page} {r : List ℕ} (number place accepted : ℕ) (n : Network) (shown : Bool) → 1024 ≤ length p.out.now → p.at ≡ 0 → shown ≡ false
    → Put p (first_line number place accepted) q → q.at ≤ p.at + 52 → q' ≡ q → r ≡ q'.out.now → Reported number place accepted n shown p.out.now r q'.at
unfolding report_of
reported_first {p} {q' = q'} number place accepted n shown e z h w b eq er =
    reported {p = p} {q = q'} number place accepted n shown e z (rw (h, append-nil (first_line number place accepted), eq) w) (rw eq (omega arith)) er

-- The first line and the peers.
pub reported_all : {p q s s' : Page} {r : List ℕ} (number place accepted : ℕ) (n : Network) (shown : Bool) → 1024 ≤ length p.out.now → p.at ≡ 0 → shown ≡ true
    → Put p (first_line number place accepted) q → q.at ≤ p.at + 52 → Put q (peer_lines n) s → s.at ≤ q.at + 544 → s' ≡ s → r ≡ s'.out.now
    → Reported number place accepted n shown p.out.now r s'.at
unfolding report_of
reported_all {p} {s' = s'} number place accepted n shown e z h v a w b eq er =
    reported {p = p} {q = s'} number place accepted n shown e z (rw (h, eq) (put_then v w)) (rw eq (omega arith)) er

-- ---- what the promise of `report` comes to

-- In a buffer of 1,024 bytes or more: all of the text, and behind it what stood there.
pub reported_whole : {number place accepted : ℕ} {n : Network} {shown : Bool} {l r : List ℕ} {j : ℕ} → 1024 ≤ length l
    → Reported number place accepted n shown l r j
    → (j ≡ length (report_of number place accepted n shown)) × (r ≡ report_of number place accepted n shown ++ drop j l)
unfolding put_in count_in
reported_whole {l = l} h w =
    let e = rw (le-ltb (length l) 1024 h) at w.count in
    (e, rw (le-ltb (length l) 1024 h) at w.bytes ∙ rw e)

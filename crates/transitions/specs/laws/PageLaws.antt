-- The client's page of the events (specs/Page.antt) holds of every sound network and every table whose rows were accepted. Assumes nothing.
use Rattle.std.specs.Prelude.{◌≡◌, ◌⊎◌, ◌↔◌, true, false, not, List, ℕ, ◌<◌, ◌^◌, get_or}
use Rattle.std.proofs.Math.Path.{refl}
use Rattle.std.proofs.Common.{sym, ap, ◌∙◌, inl, inr, arith}
use Rattle.std.proofs.Math.Logic as logic
use Rattle.std.proofs.Math.Bool.{Bool}
use Rattle.std.proofs.Math.Dec.{eqb}
use Rattle.sets.proofs.laws.Bools.{clash, not_false, and_yes, or_yes}
use Rattle.sets.specs.Set.{has, minus, Subset}
use Rattle.sets.proofs.laws.Members.{has_none, has_minus}
use Rattle.sets.proofs.laws.Bounds.{has_in}
use Rattle.sets.proofs.laws.Subsets.{subset_of_minus, minus_of_subset}
use Rattle.network.specs.declared.Peer.{Peer}
use Rattle.network.specs.declared.Message.{Message}
use Rattle.network.specs.declared.Network.{Network}
use Rattle.network.specs.declared.Table.{Table}
use Rattle.network.specs.Network.{Rows, peer, present, publishes, pending, saw, knows, topic_of, origin_of}
use Rattle.network.specs.Sound.{Sound}
use Rattle.network.specs.laws.SoundLaws.{knows_present}
use Rattle.events.specs.declared.Joining.{Joining}
use Rattle.floodnet.specs.Produce.{holders, is_new}
use Rattle.floodnet.specs.Forward.{receivers, forwarded}
use Rattle.floodnet.specs.Topics.{subscribed_to, unsubscribed_from}
use Rattle.floodnet.specs.Links.{joined}
use Rattle.floodnet.specs.Refusals.{refusal_produce, refusal_forward, refusal_topics, refusal_leave, refusal_join}
use Rattle.floodnet.specs.Step.{refusal, effect, receivers_of}
use Rattle.floodnet.specs.laws.ProduceLaws.{has_holders, holders_lt, new_why, new_yes, produced_pending, produced_present, produced_publishes, produced_subscribed, produced_linked, produced_saw, produced_knows}
use Rattle.floodnet.specs.laws.ForwardLaws.{forwarded_saw, forwarded_pending, forwarded_present, forwarded_publishes, forwarded_subscribed, forwarded_linked, forwarded_knows, receivers_pending}
use Rattle.floodnet.specs.laws.ReceiverLaws.{receivers_linked, receivers_new}
use Rattle.floodnet.specs.laws.TopicsLaws.{SameButTopics, subscribed_rest, unsubscribed_rest, subscribed_more, knows_more, subscribed_less, knows_less}
use Rattle.floodnet.specs.laws.LeaveJoin.{present_left, publishes_left, subscribed_left, pending_left, saw_left, linked_left, knows_left, present_joined, publishes_joined, subscribed_joined, pending_joined, seen_joined, linked_joined, joined_sound}
use Rattle.floodnet.specs.laws.StepLaws.{forward_met, join_met}
use Rattle.transitions.specs.laws.Exactly.{three, four, by, yes_if, or_if, and_if, and3_if, not_if, no_if, yes_not, eq_if, ne_if, cond_if, need_is, need_on, need_not, need_last, empty_if, some_if}
use Rattle.transitions.specs.Receivers.{Receives}
use Rattle.transitions.specs.Page.{SkipPage, ProducePage, ForwardPage, SubscribePage, UnsubscribePage, LeavePage, Joins, JoinPage, FloodnetPage}

-- ---- the conditions, in observations

-- a message is new exactly if no present peer holds it, and is not exactly if one does
module _ {n : Network} (s : Sound n) (m : Message) where
  new_if : (is_new n m ≡ true) ↔ ((q : Peer) → present n q ≡ true → (pending n q m ≡ false) × (saw n q m ≡ false))
  new_if = (new_why s.shaped m, new_yes n m)

  old_if : (is_new n m ≡ false) ↔ ((q : Peer) × (present n q ≡ true) × ((pending n q m ≡ true) ⊎ (saw n q m ≡ true)))
  unfolding is_new
  old_if = ((λ e. holder (some_if.0 (ne_if.0 e))), λ x. not_false λ e. held x.0 x.2 (new_if.0 e x.0 x.1))
    where
      holder : (i : ℕ) × (has (holders n n.present m) i ≡ true) → (q : Peer) × (present n q ≡ true) × ((pending n q m ≡ true) ⊎ (saw n q m ≡ true))
      holder x =
          let l : x.0 < 32 = has_in 32 (holders n n.present m) x.0 (holders_lt n n.present m) x.1 in
          let y = and_yes (present n (peer x.0)) _ (sym (has_holders n n.present m (peer x.0) l) ∙ x.1) in
          (peer x.0, y.0, or_yes (pending n (peer x.0) m) (saw n (peer x.0) m) y.1)

      held : (q : Peer) → (pending n q m ≡ true) ⊎ (saw n q m ≡ true) → (pending n q m ≡ false) × (saw n q m ≡ false) → ⊥
      held q (inl a) c = clash a c.0
      held q (inr a) c = clash a c.1

-- the peers of `who` are present, or one is not
present_if : (n : Network) (who : ℕ) → (eqb (minus who n.present) 0 ≡ true) ↔ ((q : ℕ) → has who q ≡ true → present n (peer q) ≡ true)
unfolding Subset
present_if n who = logic.Iff.trans eq_if (subset_of_minus who n.present, minus_of_subset who n.present)

absent_if : (n : Network) (who : ℕ) → (eqb (minus who n.present) 0 ≡ false) ↔ ((q : ℕ) × (has who q ≡ true) × (present n (peer q) ≡ false))
absent_if n who =
    logic.Iff.trans ne_if (logic.Iff.trans some_if
    ((λ x. let y = (at x.0).0 x.1 in (x.0, y.0, y.1)), λ x. (x.0, (at x.0).1 (x.1, x.2))))
  where
    at : (q : ℕ) → (has (minus who n.present) q ≡ true) ↔ ((has who q ≡ true) × (present n (peer q) ≡ false))
    at q = by (has_minus who n.present q) (and_if yes_if no_if)

-- ---- what stays

module _ {n o : Network} (r : SameButTopics n o) where
  topics_present : (q : Peer) → present o q ≡ present n q
  topics_present q = ap (λ (w : ℕ). has w q.0) r.present

  -- a word of a list that is as it was
  word_same : {l k : List ℕ} → l ≡ k → (i j : ℕ) → has (get_or l i 0) j ≡ has (get_or k i 0) j
  word_same e i j = ap (λ (x : List ℕ). has (get_or x i 0) j) e

-- ---- the seven

module _ {n : Network} {b : Table} (s : Sound n) (rows : Rows b) where
  skip_page : SkipPage n b
  unfolding refusal effect
  skip_page = record { accepted = refl; same = refl }

  produce_page : (p : Peer) (m : Message) → p.0 < 32 → ProducePage n b p m
  unfolding refusal effect refusal_produce
  produce_page p m hp =
      let own : Bool = eqb (origin_of b m).0 p.0 in
      let pubs : Bool = publishes n p (topic_of b m) in
      let new : Bool = is_new n m in
      record {
        refused_8 = need_is (present n p) 8 _ (need_not own 10 _ 8 (λ e. omega arith) (need_not pubs 11 _ 8 (λ e. omega arith) (need_not new 12 0 8 (λ e. omega arith) (λ e. omega arith))));
        refused_10 = logic.Iff.trans (need_on (present n p) 8 _ 10 (λ e. omega arith)) (logic.Iff.and logic.Iff.rfl
            (logic.Iff.trans (need_is own 10 _ (need_not pubs 11 _ 10 (λ e. omega arith) (need_not new 12 0 10 (λ e. omega arith) (λ e. omega arith)))) ne_if));
        refused_11 = three (logic.Iff.trans (need_on (present n p) 8 _ 11 (λ e. omega arith)) (logic.Iff.and logic.Iff.rfl
            (logic.Iff.trans (need_on own 10 _ 11 (λ e. omega arith)) (logic.Iff.and eq_if
            (need_is pubs 11 _ (need_not new 12 0 11 (λ e. omega arith) (λ e. omega arith)))))));
        refused_12 = four (logic.Iff.trans (need_on (present n p) 8 _ 12 (λ e. omega arith)) (logic.Iff.and logic.Iff.rfl
            (logic.Iff.trans (need_on own 10 _ 12 (λ e. omega arith)) (logic.Iff.and eq_if
            (logic.Iff.trans (need_on pubs 11 _ 12 (λ e. omega arith)) (logic.Iff.and logic.Iff.rfl
            (logic.Iff.trans (need_is new 12 0 (λ e. omega arith)) (old_if s m))))))));
        accepted = four (logic.Iff.trans (need_on (present n p) 8 _ 0 (λ e. omega arith)) (logic.Iff.and logic.Iff.rfl
            (logic.Iff.trans (need_on own 10 _ 0 (λ e. omega arith)) (logic.Iff.and eq_if
            (logic.Iff.trans (need_on pubs 11 _ 0 (λ e. omega arith)) (logic.Iff.and logic.Iff.rfl
            (logic.Iff.trans (need_on new 12 0 0 (λ e. omega arith)) (need_last (new_if s m)))))))));
        does = λ z.
            record {
              now_pending = λ q k. by (produced_pending s.shaped p m hp q k) (or_if yes_if (and_if eq_if eq_if));
              now_seen = produced_saw n p m;
              now_present = produced_present n p m;
              now_publishes = produced_publishes n p m;
              now_subscribed = produced_subscribed n p m;
              now_linked = produced_linked n p m;
              now_knows = produced_knows n p m;
            };
      }

  forward_known : (p : Peer) (m : Message) → pending n p m ≡ true → (q : Peer)
      → (has (receivers n b p m) q.0 ≡ true) ↔ ((knows n p (topic_of b m) q ≡ true) × (pending n q m ≡ false) × (saw n q m ≡ false))
  forward_known p m a q = by (receivers_pending s.shaped b p m a q) (and3_if yes_if no_if no_if)

  forward_receives : (p : Peer) (m : Message) → p.0 < 32 → pending n p m ≡ true → Receives n (forwarded n b p m) b p m (receivers n b p m)
  forward_receives p m hp a =
      record {
        who = λ q. four (by (receivers_linked s rows p m a q) (and_if yes_if (and_if yes_if (and_if no_if no_if))));
        newly = new;
        sender = not_false λ h. clash a ((new p).0 h).1;
        present = λ q h. knows_present s p (topic_of b m) q hp (rows.topics_fit m.0) ((forward_known p m a q).0 h).0;
      }
    where
      new : (q : Peer) → (has (receivers n b p m) q.0 ≡ true) ↔ ((pending (forwarded n b p m) q m ≡ true) × (pending n q m ≡ false))
      new q = by (receivers_new s.shaped b p m hp q) (and_if yes_if no_if)

  forward_page : (p : Peer) (m : Message) → p.0 < 32 → ForwardPage n b p m
  unfolding refusal effect refusal_forward receivers_of
  forward_page p m hp =
      record {
        refused_8 = need_is (present n p) 8 _ (need_not _ 13 0 8 (λ e. omega arith) (λ e. omega arith));
        refused_13 = logic.Iff.trans (need_on (present n p) 8 _ 13 (λ e. omega arith)) (logic.Iff.and logic.Iff.rfl (need_is _ 13 0 (λ e. omega arith)));
        accepted = logic.Iff.trans (need_on (present n p) 8 _ 0 (λ e. omega arith)) (logic.Iff.and logic.Iff.rfl (logic.Iff.trans (need_on _ 13 0 0 (λ e. omega arith)) (need_last logic.Iff.rfl)));
        does = λ z.
            record {
              now_seen = λ q k. by (forwarded_saw s.shaped b p m hp q k) (or_if yes_if (and_if eq_if eq_if));
              now_pending = λ q k. by (forwarded_pending s.shaped b p m hp q k) (and_if (not_if (and_if eq_if eq_if)) (or_if yes_if (and3_if no_if eq_if yes_if)));
              receives = forward_receives p m hp (forward_met n p m z).1;
              known = forward_known p m (forward_met n p m z).1;
              now_present = forwarded_present n b p m;
              now_publishes = forwarded_publishes n b p m;
              now_subscribed = forwarded_subscribed n b p m;
              now_linked = forwarded_linked n b p m;
              now_knows = forwarded_knows n b p m;
            };
      }

  subscribe_page : (p : Peer) (topics : ℕ) → p.0 < 32 → SubscribePage n b p topics
  unfolding refusal effect refusal_topics
  subscribe_page p topics hp =
      record {
        refused_8 = need_is (present n p) 8 0 (λ e. omega arith);
        accepted = logic.Iff.trans (need_on (present n p) 8 0 0 (λ e. omega arith)) (need_last logic.Iff.rfl);
        does = λ z.
            let r : SameButTopics n (subscribed_to n p topics) = subscribed_rest n p topics in
            record {
              now_subscribed = λ q t. by (subscribed_more s.shaped p topics hp q t) (or_if yes_if (and_if eq_if yes_if));
              now_knows = λ q t c hq ht. by (knows_more s.shaped p topics q t c hq ht) (or_if yes_if (and_if (and_if yes_if yes_if) eq_if));
              now_present = topics_present r;
              now_publishes = λ q t. word_same r r.pubs q.0 t.0;
              now_linked = λ q c. word_same r r.neighbours q.0 c.0;
              now_pending = λ q k. word_same r r.pending q.0 k.0;
              now_seen = λ q k. word_same r r.seen q.0 k.0;
            };
      }

  unsubscribe_page : (p : Peer) (topics : ℕ) → p.0 < 32 → UnsubscribePage n b p topics
  unfolding refusal effect refusal_topics
  unsubscribe_page p topics hp =
      record {
        refused_8 = need_is (present n p) 8 0 (λ e. omega arith);
        accepted = logic.Iff.trans (need_on (present n p) 8 0 0 (λ e. omega arith)) (need_last logic.Iff.rfl);
        does = λ z.
            let r : SameButTopics n (unsubscribed_from n p topics) = unsubscribed_rest n p topics in
            record {
              now_subscribed = λ q t. by (subscribed_less s.shaped p topics hp q t) (and_if yes_if (not_if (and_if eq_if yes_if)));
              now_knows = λ q t c hq ht. by (knows_less s.shaped p topics q t c hq ht) (and_if yes_if (not_if (and_if (and_if yes_if yes_if) eq_if)));
              now_present = topics_present r;
              now_publishes = λ q t. word_same r r.pubs q.0 t.0;
              now_linked = λ q c. word_same r r.neighbours q.0 c.0;
              now_pending = λ q k. word_same r r.pending q.0 k.0;
              now_seen = λ q k. word_same r r.seen q.0 k.0;
            };
      }

  leave_page : (p : Peer) → LeavePage n b p
  unfolding refusal effect refusal_leave
  leave_page p =
      record {
        refused_8 = need_is (present n p) 8 _ (need_not _ 14 0 8 (λ e. omega arith) (λ e. omega arith));
        refused_14 = logic.Iff.trans (need_on (present n p) 8 _ 14 (λ e. omega arith)) (logic.Iff.and logic.Iff.rfl (logic.Iff.trans (need_is _ 14 0 (λ e. omega arith)) (logic.Iff.trans ne_if some_if)));
        accepted = logic.Iff.trans (need_on (present n p) 8 _ 0 (λ e. omega arith)) (logic.Iff.and logic.Iff.rfl
            (logic.Iff.trans (need_on _ 14 0 0 (λ e. omega arith)) (need_last (logic.Iff.trans eq_if empty_if))));
        does = λ z.
            record {
              now_present = λ q. by (present_left n p q) (and_if yes_if (not_if eq_if));
              now_publishes = λ q t. by (publishes_left n p q t) (and_if (not_if eq_if) yes_if);
              now_subscribed = λ q t. by (subscribed_left n p q t) (and_if (not_if eq_if) yes_if);
              now_pending = λ q k. by (pending_left n p q k) (and_if (not_if eq_if) yes_if);
              now_seen = λ q k. by (saw_left n p q k) (and_if (not_if eq_if) yes_if);
              now_linked = λ q c. by (linked_left s p q c) (and3_if yes_if (not_if eq_if) (not_if eq_if));
              now_knows = λ q t c hq ht. by (knows_left s p q t c hq ht) (and3_if yes_if (not_if eq_if) (not_if eq_if));
            };
      }

  module _ (p : Peer) (j : Joining) (hp : p.0 < 32) (hs : j.subs < 2 ^ 32) (hu : j.pubs < 2 ^ 32) (hn : j.neighbours < 2 ^ 32) where
    join_does : present n p ≡ false → has j.neighbours p.0 ≡ false → minus j.neighbours n.present ≡ 0
        → Joins n (joined n p j.subs j.pubs j.neighbours) p j
    join_does gone own near =
        let pend = pending_joined s p j.subs j.pubs j.neighbours gone hp in
        let seen = seen_joined s p j.subs j.pubs j.neighbours gone hp in
        let e = s.empty p hp gone in
        record {
          now_present = λ q. by (present_joined s p j.subs j.pubs j.neighbours gone hp q) (or_if yes_if eq_if);
          now_publishes = λ q t. by (publishes_joined s p j.subs j.pubs j.neighbours gone hp q t) (cond_if eq_if yes_if yes_if);
          now_subscribed = λ q t. by (subscribed_joined s p j.subs j.pubs j.neighbours gone hp q t) (cond_if eq_if yes_if yes_if);
          now_linked = λ q c. by (linked_joined s p j.subs j.pubs j.neighbours gone hp hs hu hn q c) (or_if yes_if (or_if (and_if eq_if yes_if) (and_if eq_if yes_if)));
          now_knows = λ q t c hq ht. by ((joined_sound s p j.subs j.pubs j.neighbours gone hp own near hs hu hn).knows q t c hq ht) (and_if yes_if yes_if);
          now_pending = λ q k. ap (λ (l : List ℕ). has (get_or l q.0 0) k.0) pend;
          now_seen = λ q k. ap (λ (l : List ℕ). has (get_or l q.0 0) k.0) seen;
          nothing_pending = λ k. ap (λ (l : List ℕ). has (get_or l p.0 0) k.0) pend ∙ ap (λ (w : ℕ). has w k.0) e.pending ∙ has_none k.0;
          nothing_seen = λ k. ap (λ (l : List ℕ). has (get_or l p.0 0) k.0) seen ∙ ap (λ (w : ℕ). has w k.0) e.seen ∙ has_none k.0;
        }

    join_page : JoinPage n b p j
    unfolding refusal effect refusal_join
    join_page =
        record {
          refused_9 = logic.Iff.trans (need_is (not (present n p)) 9 _ (need_not _ 15 _ 9 (λ e. omega arith) (need_not _ 16 0 9 (λ e. omega arith) (λ e. omega arith)))) yes_not;
          refused_15 = logic.Iff.trans (need_on (not (present n p)) 9 _ 15 (λ e. omega arith)) (logic.Iff.and no_if
              (logic.Iff.trans (need_is _ 15 _ (need_not _ 16 0 15 (λ e. omega arith) (λ e. omega arith))) yes_not));
          refused_16 = three (logic.Iff.trans (need_on (not (present n p)) 9 _ 16 (λ e. omega arith)) (logic.Iff.and no_if
              (logic.Iff.trans (need_on _ 15 _ 16 (λ e. omega arith)) (logic.Iff.and no_if
              (logic.Iff.trans (need_is _ 16 0 (λ e. omega arith)) (absent_if n j.neighbours))))));
          accepted = three (logic.Iff.trans (need_on (not (present n p)) 9 _ 0 (λ e. omega arith)) (logic.Iff.and no_if
              (logic.Iff.trans (need_on _ 15 _ 0 (λ e. omega arith)) (logic.Iff.and no_if
              (logic.Iff.trans (need_on _ 16 0 0 (λ e. omega arith)) (need_last (present_if n j.neighbours)))))));
          does = λ z. let x = join_met n p j.neighbours z in join_does x.0 x.1 x.2;
        }

  -- THE THEOREM: the page holds of every sound network, with every table whose rows were accepted.
  pub floodnet_page : FloodnetPage n b
  floodnet_page =
      record {
        skip = skip_page;
        produce = λ p m hp hm. produce_page p m hp;
        forward = λ p m hp hm. forward_page p m hp;
        subscribe = λ p topics hp ht. subscribe_page p topics hp;
        unsubscribe = λ p topics hp ht. unsubscribe_page p topics hp;
        leave = λ p hp. leave_page p;
        join = join_page;
      }

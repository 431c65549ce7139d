-- With what a cache may begin, a larger one may.
use Rattle.std.{proofs.{Common.{◌≡◌, ℕ, ◌≤◌, List, [], ◌∷◌, true, arith}, lemmas.Bool.{and_parts, and_from, Decides.{nat_tests}}}, specs.Prelude.{nat_le}}
use Rattle.hc_model.specs.{Beginnings.{is_good, are_good, weights_of, may_begin}, Entries.{Content, Contents}, Tables.{bytes_in}}
use Rattle.hc_rules.specs.declared.room.Limits.{Limits}

le_more : (n a b : ℕ) → a ≤ b → nat_le n a ≡ true → nat_le n b ≡ true
le_more n a b more is = grind (arith, nat_tests)

module _ (a b : Limits) (contents : Contents) (entry : a.max_entry ≤ b.max_entry) where
  good_more : (earlier : List Content) (item : Content) (later : List Content) → is_good a contents earlier item later ≡ true →
      is_good b contents earlier item later ≡ true
  good_more earlier item later is =
      let head = and_parts _ _ is in
      let fits = and_parts _ _ head.0 in
      and_from _ _ (and_from _ _ fits.0 (le_more (bytes_in item.runs) a.max_entry b.max_entry entry fits.1)) head.1

  goods_more : (earlier items : List Content) → are_good a contents earlier items ≡ true → are_good b contents earlier items ≡ true
  goods_more earlier [] is = is
  goods_more earlier (item ∷ later) is =
      let parts = and_parts _ _ is in
      and_from _ _ (good_more earlier item later parts.0) (goods_more (item ∷ earlier) later parts.1)

  pub may_more : a.max_total ≤ b.max_total → may_begin a contents ≡ true → may_begin b contents ≡ true
  unfolding may_begin
  may_more total may =
      let weight = and_parts _ _ may in
      let next = and_parts _ _ weight.0 in
      let zero = and_parts _ _ next.0 in
      let last = and_parts _ _ zero.0 in
      let good = and_parts _ _ last.0 in
      and_from _ _ (and_from _ _ (and_from _ _ (and_from _ _ (and_from _ _ (goods_more [] contents.items good.0) good.1) last.1) zero.1) next.1)
      (le_more (weights_of contents.items) a.max_total b.max_total total weight.1)

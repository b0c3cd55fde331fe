-- How often a number stands in a prefix, and in lists that are joined.
pub use Rattle.items.proofs.MemberLemmas.{mark, count_more, count-take-le, mark_same, mark_other, count-concat, count-concat-more, count-concat-take-le}

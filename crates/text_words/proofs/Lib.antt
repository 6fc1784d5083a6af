mod NodeCounts

mod FindingLemmas

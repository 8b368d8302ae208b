mod FloodLaws
